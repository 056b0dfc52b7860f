use Rattle.std.proofs.Common.{refl, ap}
use Rattle.cql_types.specs.Means.{whole_of, day_of, compare_whole, compare_day}
use Rattle.cql_types.proofs.combine.compare.Goals as goal

pub returns-in_ok-right-in-Whole : goal.returns-in_ok-right-in-Whole
returns-in_ok-right-in-Whole c = rw c.condition.ensures (record { place = refl; makes = compare_whole (ap whole_of c.in-Whole.is) c.in_ok-right-in-Whole.ensures.ok })

pub returns-in_ok-right-in-Day : goal.returns-in_ok-right-in-Day
returns-in_ok-right-in-Day c = rw c.condition-in-Day.ensures (record { place = refl; makes = compare_day (ap day_of c.in-Day.is) c.in_ok-right-in-Day.ensures.ok })
