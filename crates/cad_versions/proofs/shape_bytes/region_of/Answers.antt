use Rattle.cad_shape.specs.RegionRings.{no_region}
use Rattle.cad_versions.proofs.shape_bytes.region_of.Goals as goal

pub returns : goal.returns
returns c = no_region c.args.rings.items c.in-Err.field-0.0 (rw c.in_ok-rings.ensures.ok at (rw c.in-Err.is at c.new-2.ensures).0)
