use Rattle.cad_desk.specs.Desks.{rules_of}
use Rattle.cad_http.proofs.RestartLemmas.{restarts_keep}
use Rattle.cad_http.proofs.laws.restarts_keep_accepted.Goals as goal

pub returns : goal.returns
returns g c = restarts_keep (rules_of g.R.Responder)
