use Rattle.cad_http.proofs.VisitLemmas.{walks_in_runs}
use Rattle.cad_http.proofs.laws.walks_in_runs_show_the_answer.Goals as goal

pub returns : goal.returns
returns g c = walks_in_runs _ c.walks_show_the_answer.ensures c.runs_keep_accepted.ensures
