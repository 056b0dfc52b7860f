use Rattle.cad_shape.proofs.LawLemmas.{corners_in}
use Rattle.cad_shape.proofs.laws.corners_lie_inside.Goals as goal

pub returns : goal.returns
returns c = corners_in
