use Rattle.std.proofs.lemmas.Bool.{false≢true}
use Rattle.cad_shape.specs.RegionRings.{rings_of, region_edges}
use Rattle.cad_shape.proofs.LocationLemmas.{outside_from}
use Rattle.cad_shape.proofs.RegionLemmas.{in_rings_held}
use Rattle.cad_shape.proofs.location.location_by_region.Goals as goal

pub returns-then-not-holds : goal.returns-then-not-holds
returns-then-not-holds c =
    let t = c.args.point in
    let region = c.args.region.now in
    outside_from t (region_edges region) (λ h. false≢true (c.if-not-holds.ensures.1 (in_rings_held c.bounds.result t (rings_of region) c.bounds.ensures.all.holds h)))
