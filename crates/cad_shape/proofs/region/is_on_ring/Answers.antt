use Rattle.cad_shape.specs.Edges.{Edge}
use Rattle.cad_shape.specs.Regions.{IsOnEdge, IsOnSome}
use Rattle.cad_shape.proofs.Walks.{round, any_pushed, any_unpushed}
use Rattle.cad_shape.proofs.region.is_on_ring.Goals as goal

pub returns : goal.returns
returns c =
    let P = λ (e : Edge). IsOnEdge c.args.point e.from e.to in
    round (IsOnSome c.args.point) (λ es e. (any_pushed P es e, any_unpushed P es e)) c.is_on_walk.result c.args.corners.now c.index-corners-corners.result c.requires c.index-corners-corners.is c.is_on_walk.ensures
