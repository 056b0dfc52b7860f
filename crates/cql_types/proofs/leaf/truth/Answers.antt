use Rattle.std.proofs.Common.{refl}
use Rattle.cql_types.specs.Means.{leaf_means, truth}
use Rattle.cql_types.proofs.leaf.truth.Goals as goal

pub returns : goal.returns
returns c = rw c.judged.ensures (record { place = refl; means = leaf_means truth })
