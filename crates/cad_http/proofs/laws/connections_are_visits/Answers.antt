use Rattle.cad_http.proofs.VisitLemmas.{connections_are_visits}
use Rattle.cad_http.proofs.laws.connections_are_visits.Goals as goal

pub returns : goal.returns
returns g c = connections_are_visits _ (λ commands request bytes replied. replied) c.connections_are_their_own.ensures
