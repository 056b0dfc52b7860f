use Rattle.cad_shape.specs.Rings.{same_ring}
use Rattle.cad_shape.proofs.laws.corners_make_the_ring.Goals as goal

pub returns : goal.returns
returns c = same_ring
