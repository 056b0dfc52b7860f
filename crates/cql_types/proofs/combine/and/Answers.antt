use Rattle.std.proofs.Common.{refl}
use Rattle.cql_types.specs.Means.{conjunction}
use Rattle.cql_types.proofs.combine.and.Goals as goal

pub returns : goal.returns
returns c = rw c.condition.ensures (record { place = refl; makes = conjunction _ c.in_ok-gather.ensures.ok })
