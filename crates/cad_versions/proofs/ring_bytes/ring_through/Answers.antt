use Rattle.cad_shape.specs.Rings.{no_ring}
use Rattle.cad_versions.proofs.ring_bytes.ring_through.Goals as goal

pub returns : goal.returns
returns c = no_ring c.args.corners.items c.in-Err.field-0.0 (c.in-Err.ensures).0
