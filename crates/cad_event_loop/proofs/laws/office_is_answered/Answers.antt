use Rattle.cad_event_loop.proofs.StreamLemmas.{office_is_answered}
use Rattle.cad_event_loop.proofs.laws.office_is_answered.Goals as goal

pub returns : goal.returns
returns g c = office_is_answered g.R.Responder g.R.JournalResponder g.R.WorkingResponder.owes
