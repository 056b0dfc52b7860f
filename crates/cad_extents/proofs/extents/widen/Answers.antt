use Rattle.std.proofs.Common.{◌∙◌, ◌<◌, ◌+◌, ℕ, length, ap, sym, subst, arith}
use Rattle.std.proofs.lemmas.List.{length-set}
use Rattle.cad_feature.specs.Features.{datum_at}
use Rattle.cad_extents.specs.Extents.{any, extent_at, Holds}
use Rattle.cad_extents.proofs.HeldLemmas.{all_held, any_held, set_held}
use Rattle.cad_extents.proofs.extents.widen.Goals as goal

pub loop-place-preserved : goal.loop-place-preserved
loop-place-preserved c =
    let before = c.loop-place.extents.items in
    let at = c.loop-place.place in
    let inside : at < length before = omega arith in
    let e = c.in_ok-widen_at.ensures.0 in
    let is = c.in_ok-widen_at.ensures.1 in
    let own = c.in_ok-widen_at.ensures.2 in
    let more = c.in_ok-widen_at.ensures.3 in
    record {
      own = λ x h. subst (λ l. (k : ℕ) → Holds (extent_at l k) (datum_at x k)) (sym is) (set_held (λ k e. Holds e (datum_at x k)) before at e any inside
          (own (datum_at x at) (c.loop-place.invariant.own x h at))
          (λ k apart. c.loop-place.invariant.own x h k));
      more = subst (λ l. (k : ℕ) → k < at + 1 → Holds (extent_at l k) (datum_at c.args.feature.now k)) (sym is) (set_held (λ k e. k < at + 1 → Holds e (datum_at c.args.feature.now k)) before at e any inside
          (λ within. more)
          (λ k apart within. c.loop-place.invariant.more k (omega (arith, apart))));
      same = ap length is ∙ length-set before at e ∙ c.loop-place.invariant.same;
    }

pub returns-clause-more : goal.returns-clause-more
returns-clause-more c =
    all_held (λ k e. Holds e (datum_at c.args.feature.now k)) c.loop-place.extents.items any
    (λ k h. c.loop-place.invariant.more k (omega (arith, h, c.loop-place.invariant.same)))
    (λ k. any_held (datum_at c.args.feature.now k))
