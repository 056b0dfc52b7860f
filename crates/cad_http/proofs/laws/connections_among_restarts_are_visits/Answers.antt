use Rattle.cad_http.proofs.RestartLemmas.{connections_among}
use Rattle.cad_http.proofs.laws.connections_among_restarts_are_visits.Goals as goal

pub returns : goal.returns
returns g c = connections_among _ c.connections_are_visits.ensures
