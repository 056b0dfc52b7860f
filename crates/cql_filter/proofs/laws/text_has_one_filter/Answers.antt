use Rattle.cql_filter.proofs.Verdict.{one_filter}
use Rattle.cql_filter.proofs.laws.text_has_one_filter.Goals as goal

pub returns : goal.returns
returns c = one_filter c.one_spelling.ensures c.tokens_have_one_tree.ensures c.tree_has_one_filter.ensures
