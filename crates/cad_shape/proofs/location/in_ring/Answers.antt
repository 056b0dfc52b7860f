use Rattle.cad_shape.specs.Edges.{edges_of}
use Rattle.cad_shape.specs.Rings.{corners_of}
use Rattle.cad_shape.proofs.LocationLemmas.{taken_in}
use Rattle.cad_shape.proofs.location.in_ring.Goals as goal

pub returns : goal.returns
returns c = rw c.is_taken_in.ensures (taken_in c.args.point (edges_of (corners_of c.args.ring.now)) c.location_by_ring.result c.location_by_ring.ensures)
