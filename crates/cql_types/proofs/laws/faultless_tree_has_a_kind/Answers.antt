use Rattle.cql_types.proofs.Faults.{faultless}
use Rattle.cql_types.proofs.laws.faultless_tree_has_a_kind.Goals as goal

pub returns : goal.returns
returns c = faultless
