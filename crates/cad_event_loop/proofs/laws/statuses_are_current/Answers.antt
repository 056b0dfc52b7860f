use Rattle.cad_event_loop.proofs.StatusLemmas.{statuses_are_current}
use Rattle.cad_event_loop.proofs.laws.statuses_are_current.Goals as goal

pub returns : goal.returns
returns g c = statuses_are_current g.R.Responder g.R.JournalResponder g.R.WorkingResponder.owes
