use Rattle.cql_parser.proofs.Verdict.{fault_or_tree}
use Rattle.cql_parser.proofs.laws.fault_or_tree.Goals as goal

pub returns : goal.returns
returns c = fault_or_tree
