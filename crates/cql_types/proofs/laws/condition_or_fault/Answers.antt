use Rattle.cql_types.proofs.Verdict.{condition_or_fault}
use Rattle.cql_types.proofs.laws.condition_or_fault.Goals as goal

pub returns : goal.returns
returns c = condition_or_fault
