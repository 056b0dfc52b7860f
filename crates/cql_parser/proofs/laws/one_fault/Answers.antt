use Rattle.cql_parser.proofs.Verdict.{one_fault}
use Rattle.cql_parser.proofs.laws.one_fault.Goals as goal

pub returns : goal.returns
returns c = one_fault
