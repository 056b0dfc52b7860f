use Rattle.cad_history.proofs.AcceptedLemmas.{listed}
use Rattle.cad_history.proofs.laws.accepted_are_listed.Goals as goal

pub returns : goal.returns
returns c = listed
