use Rattle.cad_history.proofs.AcceptedLemmas.{few_commands}
use Rattle.cad_history.proofs.laws.accepted_are_few.Goals as goal

pub returns : goal.returns
returns c = few_commands
