use Rattle.std.proofs.Common.{◌≡◌, ◌==◌, ℕ, Some, None, if◌then◌else◌, refl, sym, ap, ◌∙◌}
use Rattle.std.specs.List.{before_first, after_first}
use Rattle.cad_resource.specs.Heads.{is_target}
use Rattle.cad_resource.proofs.ResourceLemmas.{target_found}
use Rattle.cad_resource.proofs.decision.requested_by_target.Goals as goal

pub returns : goal.returns
returns c =
    let target = c.args.target.now in
    let told : Some c.in-Some.text.now ≡ (if is_target target then Some target else None) = rw c.in-Some.is at c.target_text.ensures in
    let found = target_found target c.in-Some.text.now told in
    let path_is : c.cut.result.0.now ≡ before_first (λ (b : ℕ). b == 63) target = c.cut.ensures.before ∙ ap (before_first (λ (b : ℕ). b == 63)) found.1 in
    let query_is : c.cut.result.1.now ≡ after_first (λ (b : ℕ). b == 63) target = c.cut.ensures.after ∙ ap (after_first (λ (b : ℕ). b == 63)) found.1 in
    rw (path_is, query_is) at c.requested_at_place.ensures ∙ sym (rw found.0 refl)
