use Rattle.cad_parameters.proofs.TargetLemmas.{self_is_read_back}
use Rattle.cad_parameters.proofs.laws.self_is_read_back.Goals as goal

pub returns : goal.returns
returns c = self_is_read_back
