use Rattle.cad_http.proofs.RestartLemmas.{walks_among}
use Rattle.cad_http.proofs.laws.walks_among_restarts_show_the_answer.Goals as goal

pub returns : goal.returns
returns g c = walks_among _ c.walks_show_the_answer.ensures c.restarts_keep_accepted.ensures
