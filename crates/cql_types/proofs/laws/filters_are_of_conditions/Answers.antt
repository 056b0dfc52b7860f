use Rattle.cql_types.proofs.Verdict.{filter_is_condition}
use Rattle.cql_types.proofs.laws.filters_are_of_conditions.Goals as goal

pub returns : goal.returns
returns c = λ s t x h. filter_is_condition h
