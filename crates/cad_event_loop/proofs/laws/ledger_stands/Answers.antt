use Rattle.cad_event_loop.proofs.EnteredLemmas.{ledger_stands}
use Rattle.cad_event_loop.proofs.laws.ledger_stands.Goals as goal

pub returns : goal.returns
returns g c = ledger_stands g.R.Responder g.R.JournalResponder g.R.WorkingResponder.owes
