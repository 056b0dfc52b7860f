use Rattle.cad_shape.specs.RegionRings.{region_edges}
use Rattle.cad_shape.proofs.LocationLemmas.{taken_in}
use Rattle.cad_shape.proofs.location.in_region.Goals as goal

pub returns : goal.returns
returns c = rw c.is_taken_in.ensures (taken_in c.args.point (region_edges c.args.region.now) c.location_by_region.result c.location_by_region.ensures)
