use Rattle.cql_parser.proofs.Verdict.{one_tree}
use Rattle.cql_parser.proofs.laws.tokens_have_one_tree.Goals as goal

pub returns : goal.returns
returns c = one_tree
