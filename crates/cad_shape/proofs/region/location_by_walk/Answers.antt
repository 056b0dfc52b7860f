use Rattle.std.proofs.Common.{◌≡◌, [], drop, arith}
use Rattle.std.proofs.Math.ListN.{drop_of_length-le}
use Rattle.cad_shape.specs.Edges.{walk}
use Rattle.cad_shape.proofs.LocationLemmas.{location_is}
use Rattle.cad_shape.proofs.region.location_by_walk.Goals as goal

pub returns : goal.returns
returns c =
    let t = c.args.point in
    let i = c.loop-corner.invariant in
    let none : drop c.loop-corner.corner-index c.args.corners.now ≡ [] = drop_of_length-le c.args.corners.now c.loop-corner-test.false in
    let off = rw none at i.walked in
    let counted = rw none at i.counted in
    rw c.of_crossings.ensures (location_is t (walk c.args.start c.args.corners.now) c.loop-corner.crossed (λ h. off.0 h) (omega (arith, counted)))
