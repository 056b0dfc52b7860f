use Rattle.std.proofs.Common.{refl}
use Rattle.cql_types.specs.Means.{like}
use Rattle.cql_types.proofs.combine.like.Goals as goal

pub returns : goal.returns
returns c = rw c.condition.ensures (record { place = refl; makes = like c.in_ok-value.ensures.ok c.in_ok-pattern.ensures.ok c.in_ok-filter.ensures })
