use Rattle.std.proofs.Common.{◌≡◌, sym, ◌∙◌, subst, below_more, arith}
use Rattle.std.proofs.lemmas.Bool.{false≢true}
use Rattle.cad_shape.specs.Polygons.{IsOutside}
use Rattle.cad_shape.proofs.RegionLemmas.{outside_is, outer_inside}
use Rattle.cad_shape.proofs.polygon.first_outside.Goals as goal

pub loop-i-init : goal.loop-i-init
loop-i-init c k h =
    let e : 0 ≡ k = omega arith in
    subst (λ i. ¬ (IsOutside c.args.rings.now i)) e (outer_inside c.args.rings.now)

pub loop-i-preserved : goal.loop-i-preserved
loop-i-preserved c =
    let h = outside_is c.args.rings.now c.loop-i.i c.index-rings-0.result c.index-rings-i.result c.loop-i-test.true c.index-rings-0.is c.index-rings-i.is in
    below_more _ _ c.loop-i.invariant (λ k. false≢true (sym c.if-reaches_out.false ∙ c.reaches_out.ensures.1 (h.1 k)))
