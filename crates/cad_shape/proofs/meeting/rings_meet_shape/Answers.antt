use Rattle.std.proofs.Common.{refl}
use Rattle.std.proofs.lemmas.Bool.{false≢true}
use Rattle.cad_shape.specs.Edges.{Edge}
use Rattle.cad_shape.specs.Regions.{MeetsSome}
use Rattle.cad_shape.specs.Shapes.{lent_shape, shape_edges}
use Rattle.cad_shape.proofs.RestOfRings.{some_edge, none_here, one_here}
use Rattle.cad_shape.proofs.meeting.rings_meet_shape.Goals as goal

pub returns-then-corners_meet_shape : goal.returns-then-corners_meet_shape
returns-then-corners_meet_shape c =
    let p = some_edge (λ (e : Edge). MeetsSome e.from e.to (shape_edges (lent_shape c.args.shape))) c.args.rings.now c.loop-ring.ring-index c.ring-item.result c.loop-ring-test.true c.ring-item.is in
    (λ t. one_here c.loop-ring.invariant p (rw c.corners.ensures at c.if-corners_meet_shape.ensures.0 refl), λ m. refl)

pub loop-ring-preserved : goal.loop-ring-preserved
loop-ring-preserved c =
    let p = some_edge (λ (e : Edge). MeetsSome e.from e.to (shape_edges (lent_shape c.args.shape))) c.args.rings.now c.loop-ring.ring-index c.ring-item.result c.loop-ring-test.true c.ring-item.is in
    none_here c.loop-ring.invariant p (λ m. false≢true (c.if-corners_meet_shape.ensures.1 (rw c.corners.ensures m)))
