use Rattle.cql_filter.proofs.Verdict.{one_first_fault}
use Rattle.cql_filter.proofs.laws.one_first_fault.Goals as goal

pub returns : goal.returns
returns c = one_first_fault (record {
  one_spelling = c.one_spelling.ensures;
  one_spelling_fault = c.one_fault.ensures;
  no_tokens = c.fault_or_tokens.ensures;
  tokens_ascend = c.places_in_order.ensures;
  one_tree = c.tokens_have_one_tree.ensures;
  one_grammar_fault = c.one_fault-2.ensures;
  no_tree = c.fault_or_tree.ensures;
  trees_ascend = c.places_are_in_order.ensures;
  one_least = c.one_least_fault.ensures;
})
