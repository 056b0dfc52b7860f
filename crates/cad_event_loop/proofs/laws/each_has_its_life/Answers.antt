use Rattle.cad_event_loop.proofs.LifeLemmas.{each_has_its_life}
use Rattle.cad_event_loop.proofs.laws.each_has_its_life.Goals as goal

pub returns : goal.returns
returns g c = each_has_its_life g.R.Responder g.R.JournalResponder g.R.WorkingResponder.owes
