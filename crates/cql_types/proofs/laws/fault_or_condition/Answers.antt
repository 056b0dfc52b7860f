use Rattle.cql_types.proofs.Verdict.{condition_has_no_fault}
use Rattle.cql_types.proofs.laws.fault_or_condition.Goals as goal

pub returns : goal.returns
returns c = λ s t f h w. condition_has_no_fault h w
