use Rattle.cql_meaning.proofs.Exclusion.{excludes}
use Rattle.cql_meaning.proofs.laws.yes_excludes_no.Goals as goal

pub returns : goal.returns
returns c = λ f x. excludes x f
