use Rattle.cad_event_loop.proofs.ReplyLemmas.{each_is_served}
use Rattle.cad_event_loop.proofs.laws.each_is_served.Goals as goal

pub returns : goal.returns
returns g c = each_is_served g.R.Responder g.R.JournalResponder g.R.WorkingResponder.owes
