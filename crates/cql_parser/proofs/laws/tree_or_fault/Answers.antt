use Rattle.cql_parser.proofs.Verdict.{tree_or_fault}
use Rattle.cql_parser.proofs.laws.tree_or_fault.Goals as goal

pub returns : goal.returns
returns c = tree_or_fault
