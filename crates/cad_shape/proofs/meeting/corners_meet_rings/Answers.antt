use Rattle.std.proofs.Common.{◌≡◌, [], drop, refl}
use Rattle.std.proofs.Math.ListN.{drop_of_length-le}
use Rattle.std.proofs.lemmas.Bool.{false≢true}
use Rattle.cad_shape.specs.Edges.{edges_of}
use Rattle.cad_shape.proofs.RestOfRings.{meets_one, none_here, one_here, none_meets}
use Rattle.cad_shape.proofs.meeting.corners_meet_rings.Goals as goal

pub returns-then-rings_meet : goal.returns-then-rings_meet
returns-then-rings_meet c =
    let p = meets_one (edges_of c.args.corners.now) c.args.rings.now c.loop-ring.ring-index c.ring-item.result c.loop-ring-test.true c.ring-item.is in
    (λ t. one_here c.loop-ring.invariant p (rw c.corners.ensures at c.if-rings_meet.ensures.0 refl), λ m. refl)

pub loop-ring-preserved : goal.loop-ring-preserved
loop-ring-preserved c =
    let p = meets_one (edges_of c.args.corners.now) c.args.rings.now c.loop-ring.ring-index c.ring-item.result c.loop-ring-test.true c.ring-item.is in
    none_here c.loop-ring.invariant p (λ m. false≢true (c.if-rings_meet.ensures.1 (rw c.corners.ensures m)))

pub returns : goal.returns
returns c =
    let none : drop c.loop-ring.ring-index c.args.rings.now ≡ [] = drop_of_length-le c.args.rings.now c.loop-ring-test.false in
    let i = rw none at c.loop-ring.invariant in
    (λ t. absurd (false≢true t), λ m. absurd (none_meets (edges_of c.args.corners.now) (i.0 m)))
