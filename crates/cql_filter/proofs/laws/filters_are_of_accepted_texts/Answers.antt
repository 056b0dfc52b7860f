use Rattle.cql_filter.proofs.Verdict.{filters_of_accepted}
use Rattle.cql_filter.proofs.laws.filters_are_of_accepted_texts.Goals as goal

pub returns : goal.returns
returns c = filters_of_accepted c.filters_are_of_conditions.ensures
