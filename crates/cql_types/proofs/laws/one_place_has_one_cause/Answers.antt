use Rattle.cql_types.proofs.Faults.{one_cause}
use Rattle.cql_types.proofs.laws.one_place_has_one_cause.Goals as goal

pub returns : goal.returns
returns c = λ s t f g from to o v w e. one_cause o v w e
