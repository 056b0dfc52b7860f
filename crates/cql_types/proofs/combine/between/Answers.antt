use Rattle.std.proofs.Common.{refl}
use Rattle.cql_types.specs.Means.{between}
use Rattle.cql_types.proofs.combine.between.Goals as goal

pub returns : goal.returns
returns c = rw c.condition.ensures (record { place = refl; makes = between c.in_ok-value.ensures.ok c.in_ok-low.ensures.ok c.in_ok-high.ensures.ok c.in_ok-filter.ensures })
