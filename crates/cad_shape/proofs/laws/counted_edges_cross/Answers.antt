use Rattle.cad_shape.proofs.Heights.{passes_right, right_passes}
use Rattle.cad_shape.proofs.laws.counted_edges_cross.Goals as goal

pub returns : goal.returns
returns c t p q = (passes_right t p q, right_passes t p q)
