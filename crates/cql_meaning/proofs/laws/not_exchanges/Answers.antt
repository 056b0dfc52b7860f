use Rattle.std.proofs.Common.{ap}
use Rattle.cql_meaning.specs.lemmas.NodeLemmas.{sides_Not}
use Rattle.cql_meaning.proofs.laws.not_exchanges.Goals as goal

pub returns : goal.returns
returns c = λ f x. (ap (λ s. s.yes) (sides_Not x f), ap (λ s. s.no) (sides_Not x f))
