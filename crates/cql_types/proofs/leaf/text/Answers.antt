use Rattle.std.proofs.Common.{refl}
use Rattle.cql_types.specs.Means.{leaf_means, literal}
use Rattle.cql_types.proofs.leaf.text.Goals as goal

pub returns : goal.returns
returns c = record { place = refl; means = leaf_means (literal _ c.in_ok-clone.ensures.cases) }
