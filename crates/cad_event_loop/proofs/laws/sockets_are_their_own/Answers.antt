use Rattle.cad_event_loop.proofs.SocketLemmas.{sockets_are_their_own}
use Rattle.cad_event_loop.proofs.laws.sockets_are_their_own.Goals as goal

pub returns : goal.returns
returns g c = sockets_are_their_own g.R.Responder g.R.JournalResponder g.R.WorkingResponder.owes c.channels_are_their_own.ensures
