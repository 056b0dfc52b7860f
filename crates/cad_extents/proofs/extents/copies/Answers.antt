use Rattle.std.proofs.Common.{◌∙◌, ◌<◌, ◌+◌, ℕ, length, ap, arith, subst, sym}
use Rattle.cad_feature.specs.Features.{datum_at}
use Rattle.cad_feature.specs.Values.{Datum}
use Rattle.cad_extents.specs.Extents.{Holds, any, extent_at}
use Rattle.cad_extents.proofs.HeldLemmas.{all_held, any_held, grown, length-snoc, same_inside}
use Rattle.cad_extents.proofs.extents.copies.Goals as goal

pub loop-extent-init : goal.loop-extent-init
loop-extent-init c =
    let none = c.in_ok-all.ensures.items in
    record {
      same = λ k h. absurd (omega (arith, h, ap length none));
      count = ap length none;
    }

pub loop-extent-preserved : goal.loop-extent-preserved
loop-extent-preserved c =
    let xs = c.args.extents.now in
    let before = c.loop-extent.all.items in
    let count = c.loop-extent.invariant.count in
    let last : (d : Datum) → Holds (extent_at xs (length before)) d → Holds c.in_ok-same.same d = λ d held. c.in_ok-same.ensures d (subst (λ e. Holds e d) (ap (extent_at xs) count ∙ same_inside xs c.loop-extent.extent-index any c.extent-item.result (omega arith) ∙ sym c.extent-item.is) held) in
    record {
      same = subst (λ l. (k : ℕ) → k < length l → (d : Datum) → Holds (extent_at xs k) d → Holds (extent_at l k) d) (sym c.in_ok-push.ensures.items)
          (grown (λ k e. (d : Datum) → Holds (extent_at xs k) d → Holds e d) before c.in_ok-same.same any c.loop-extent.invariant.same last);
      count = ap length c.in_ok-push.ensures.items ∙ length-snoc before c.in_ok-same.same ∙ ap (λ n. n + 1) count;
    }

pub returns : goal.returns
returns c = λ x held. all_held (λ k e. Holds e (datum_at x k)) c.loop-extent.all.items any
    (λ k h. c.loop-extent.invariant.same k h (datum_at x k) (held k))
    (λ k. any_held (datum_at x k))
