use Rattle.cad_clients.proofs.OwnLemmas.{channels_are_their_own}
use Rattle.cad_clients.proofs.laws.channels_are_their_own.Goals as goal

pub returns : goal.returns
returns g c = channels_are_their_own g.R.Responder g.R.WorkingResponder.owes c.steps_are_a_run.ensures c.connections_are_their_own.ensures
