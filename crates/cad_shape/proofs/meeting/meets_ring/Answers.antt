use Rattle.cad_shape.specs.Edges.{Edge}
use Rattle.cad_shape.specs.Segments.{Meet}
use Rattle.cad_shape.specs.Regions.{MeetsSome}
use Rattle.cad_shape.proofs.Walks.{round, any_pushed, any_unpushed}
use Rattle.cad_shape.proofs.meeting.meets_ring.Goals as goal

pub returns : goal.returns
returns c =
    let p = c.args.p in
    let q = c.args.q in
    let P = λ (e : Edge). Meet p q e.from e.to in
    round (MeetsSome p q) (λ es e. (any_pushed P es e, any_unpushed P es e)) c.meets_walk.result c.args.corners.now c.index-corners-corners.result c.requires c.index-corners-corners.is c.meets_walk.ensures
