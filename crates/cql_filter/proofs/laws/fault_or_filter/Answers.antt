use Rattle.cql_filter.proofs.Verdict.{fault_or_filter}
use Rattle.cql_filter.proofs.laws.fault_or_filter.Goals as goal

pub returns : goal.returns
returns c =
    fault_or_filter c.one_spelling.ensures c.fault_or_tokens.ensures c.tokens_have_one_tree.ensures c.fault_or_tree.ensures
    c.fault_or_condition.ensures
