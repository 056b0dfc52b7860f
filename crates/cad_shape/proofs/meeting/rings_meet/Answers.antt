use Rattle.cad_shape.specs.Edges.{Edge, edges_of}
use Rattle.cad_shape.specs.Regions.{MeetsSome, SomeMeet}
use Rattle.cad_shape.proofs.Walks.{round, any_pushed, any_unpushed}
use Rattle.cad_shape.proofs.meeting.rings_meet.Goals as goal

pub returns : goal.returns
returns c =
    let ring = edges_of c.args.ring.now in
    let P = λ (e : Edge). MeetsSome e.from e.to ring in
    round (λ es. SomeMeet es ring) (λ es e. (any_pushed P es e, any_unpushed P es e)) c.walk_meets_ring.result c.args.corners.now c.index-corners-corners.result c.requires.corners_some c.index-corners-corners.is c.walk_meets_ring.ensures
