use Rattle.std.proofs.Common.{refl}
use Rattle.cad_shape.specs.Rings.{corners_of}
use Rattle.cad_shape.proofs.RegionLemmas.{in_step}
use Rattle.cad_shape.proofs.polygon.reaches_out.Goals as goal

pub loop-corner-preserved : goal.loop-corner-preserved
loop-corner-preserved c =
    let i = c.loop-corner.invariant in
    let h = in_step (corners_of c.args.outer.now) c.corners-corner-items.result.now c.loop-corner.corner-index c.corner-item.result c.loop-corner-test.true c.corner-item.is (c.if-not-in_ring.ensures.0 refl) in
    (λ k. h.0 (i.0 k), λ k. i.1 (h.1 k))
