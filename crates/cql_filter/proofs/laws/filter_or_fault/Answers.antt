use Rattle.cql_filter.proofs.Verdict.{filter_or_fault}
use Rattle.cql_filter.proofs.laws.filter_or_fault.Goals as goal

pub returns : goal.returns
returns c =
    filter_or_fault c.tokens_or_fault.ensures c.places_in_order.ensures c.tree_or_fault.ensures c.places_are_in_order.ensures
    c.condition_or_fault.ensures
