use Rattle.cql_types.proofs.Senses.{one_filter}
use Rattle.cql_types.proofs.laws.tree_has_one_filter.Goals as goal

pub returns : goal.returns
returns c = one_filter
