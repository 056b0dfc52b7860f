use Rattle.cad_shape.proofs.LawLemmas.{one_least}
use Rattle.cad_shape.proofs.laws.one_least_box.Goals as goal

pub returns : goal.returns
returns c = one_least
