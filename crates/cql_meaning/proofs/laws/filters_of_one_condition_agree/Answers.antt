use Rattle.cql_meaning.proofs.ConditionLemmas.{one_condition_agrees}
use Rattle.cql_meaning.proofs.laws.filters_of_one_condition_agree.Goals as goal

pub returns : goal.returns
returns c = one_condition_agrees
