use Rattle.std.proofs.Common.{ap, ◌∙◌}
use Rattle.cql_meaning.specs.lemmas.NodeLemmas.{sides_Not}
use Rattle.cql_meaning.specs.Sides.{sides, negation}
use Rattle.cql_meaning.proofs.laws.not_twice_is_none.Goals as goal

pub returns : goal.returns
returns c = λ outer inner x is. sides_Not x outer ∙ ap negation (ap (sides x) is ∙ sides_Not x inner)
