use Rattle.cad_parameters.proofs.TargetLemmas.{next_is_read_back}
use Rattle.cad_parameters.proofs.laws.next_is_read_back.Goals as goal

pub returns : goal.returns
returns c = next_is_read_back
