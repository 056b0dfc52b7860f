use Rattle.cad_shape.proofs.ShapeLemmas.{meets_overlap}
use Rattle.cad_shape.proofs.laws.bounds_overlap.Goals as goal

pub returns : goal.returns
returns c = meets_overlap
