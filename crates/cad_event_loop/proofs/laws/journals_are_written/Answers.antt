use Rattle.cad_event_loop.proofs.JournalLemmas.{journals_are_written}
use Rattle.cad_event_loop.proofs.laws.journals_are_written.Goals as goal

pub returns : goal.returns
returns g c = journals_are_written g.R.Responder g.R.JournalResponder g.R.WorkingResponder.owes g.met.R.JournalResponder.were_accepted g.met.R.JournalResponder.readings_are_within c.readings_stay.ensures
