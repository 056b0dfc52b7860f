use Rattle.cad_shape.specs.RegionRings.{same_region}
use Rattle.cad_shape.proofs.laws.rings_make_the_region.Goals as goal

pub returns : goal.returns
returns c = same_region
