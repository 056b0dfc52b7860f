use Rattle.std.proofs.Common.{refl}
use Rattle.cql_types.proofs.combine.is_in.Goals as goal

pub returns : goal.returns
returns c = rw c.condition.ensures (record { place = refl; makes = c.in_ok-filter.ensures.ok _ _ c.in_ok-filter-2.ensures })
