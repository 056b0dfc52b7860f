use Rattle.std.proofs.Common.{refl}
use Rattle.cql_types.specs.Means.{temporal}
use Rattle.cql_types.proofs.combine.temporal.Goals as goal

pub returns : goal.returns
returns c = rw c.condition.ensures (record { place = refl; makes = temporal c.in_ok-left.ensures.ok c.in_ok-right.ensures.ok })
