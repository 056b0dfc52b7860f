use Rattle.cad_shape.proofs.LawLemmas.{turned_region}
use Rattle.cad_shape.proofs.laws.turning_keeps_regions.Goals as goal

pub returns : goal.returns
returns c = turned_region
