use Rattle.std.proofs.Common.{refl}
use Rattle.cql_types.specs.Means.{is_null}
use Rattle.cql_types.proofs.combine.is_null.Goals as goal

pub returns : goal.returns
returns c = rw c.condition.ensures (record { place = refl; makes = is_null c.in_ok-value.ensures.ok c.in_ok-filter.ensures })
