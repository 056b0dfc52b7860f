use Rattle.cad_shape.proofs.ShapeLemmas.{in_held}
use Rattle.cad_shape.proofs.laws.bounds_hold_the_shape.Goals as goal

pub returns : goal.returns
returns c = in_held
