use Rattle.std.proofs.Common.{◌∙◌, ◌+◌, false, ℕ, ap}
use Rattle.std.proofs.lemmas.List.{length_push}
use Rattle.cad_register.proofs.SlotLemmas.{missing_push}
use Rattle.cad_register.proofs.slots.none_given.Goals as goal

pub loop-at-preserved : goal.loop-at-preserved
loop-at-preserved c =
    let so_far = c.loop-at.given.items in
    rw c.in_ok-push.ensures.items (record {
      even = length_push so_far false ∙ ap (λ (n : ℕ). n + 1) c.loop-at.invariant.even;
      missing = missing_push so_far ∙ ap (λ (n : ℕ). n + 1) c.loop-at.invariant.missing;
    })
