use Rattle.cad_desk.specs.Desks.{rules_of}
use Rattle.cad_http.proofs.VisitLemmas.{runs_keep_accepted}
use Rattle.cad_http.proofs.laws.runs_keep_accepted.Goals as goal

pub returns : goal.returns
returns g c = runs_keep_accepted (rules_of g.R.Responder)
