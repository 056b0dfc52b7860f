use Rattle.cql_rewrite.proofs.Priced.{priced}
use Rattle.cql_rewrite.proofs.laws.choices_cost_the_least.Goals as goal

pub returns : goal.returns
returns c = priced
