use Rattle.cql_rewrite.proofs.FirstLeast.{first_choice}
use Rattle.cql_rewrite.proofs.laws.choices_are_the_first_of_least.Goals as goal

pub returns : goal.returns
returns c = first_choice
