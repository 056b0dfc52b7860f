use Rattle.cad_shape.specs.Locations.{IsLocation}
use Rattle.cad_shape.proofs.LocationLemmas.{location_pushed}
use Rattle.cad_shape.proofs.Walks.{round_from}
use Rattle.cad_shape.proofs.region.location_by_corners.Goals as goal

pub returns : goal.returns
returns c =
    let l = c.location_by_walk.result in
    round_from (λ es. IsLocation c.args.point es l) (location_pushed c.args.point l) c.args.corners.now c.index-corners-corners.result c.requires c.index-corners-corners.is c.location_by_walk.ensures
