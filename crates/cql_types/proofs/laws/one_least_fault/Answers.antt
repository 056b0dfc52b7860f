use Rattle.cql_types.proofs.Verdict.{one_least}
use Rattle.cql_types.proofs.laws.one_least_fault.Goals as goal

pub returns : goal.returns
returns c = one_least
