use Rattle.cql_types.proofs.Faults.{same_kind}
use Rattle.cql_types.proofs.laws.tree_has_one_kind.Goals as goal

pub returns : goal.returns
returns c = λ s t k l h i. same_kind h i
