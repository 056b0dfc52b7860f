use Rattle.cad_shape.proofs.LawLemmas.{within_meets}
use Rattle.cad_shape.proofs.laws.within_meets.Goals as goal

pub returns : goal.returns
returns c = within_meets
