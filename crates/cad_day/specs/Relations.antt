-- How intervals of days lie to one another (OGC 21-065r2, requirements class Temporal Functions; a day is the interval of that day: own profile).
use Rattle.std.specs.Prelude.{ℤ, int_lt, Bool, true, false, ◌&&◌, ◌||◌, not, Option, Some, None, ◌≤ℤ◌}
use Rattle.std.specs.Ordering.{int_eq}
use Rattle.cad_day.specs.declared.day.Day.{Day}
use Rattle.cad_day.specs.declared.end.End.{End}
use Rattle.cad_day.specs.declared.end.End.TheVariants.{BeforeAll, On, AfterAll}
use Rattle.cad_day.specs.declared.interval.Interval.{Interval}
use Rattle.cad_day.specs.declared.relation.Relation.{Relation}
use Rattle.cad_day.specs.declared.relation.Relation.TheVariants.{After, Before, Disjoint, Intersects, Equals, Contains, During, Meets, MetBy, Starts, StartedBy, Finishes, FinishedBy, Overlaps, OverlappedBy}
use Rattle.cad_day.specs.DayNumbers.{IsDayNumber}
use Rattle.cad_day.specs.Days.{number_of}

abbrev pub from_end : Option Day → End
from_end None = BeforeAll
from_end (Some day) = On day

abbrev pub to_end : Option Day → End
to_end None = AfterAll
to_end (Some day) = On day

-- where the interval starts: an open start lies before every day
abbrev pub first_end : Interval → End
first_end days = from_end days.from

-- and where it stops: an open end lies after every day
abbrev pub last_end : Interval → End
last_end days = to_end days.to

abbrev pub is_before : End → End → Bool
is_before BeforeAll BeforeAll = false
is_before BeforeAll (On e) = true
is_before BeforeAll AfterAll = true
is_before (On d) BeforeAll = false
is_before (On d) (On e) = int_lt (number_of d) (number_of e)
is_before (On d) AfterAll = true
is_before AfterAll BeforeAll = false
is_before AfterAll (On e) = false
is_before AfterAll AfterAll = false

abbrev pub is_same : End → End → Bool
is_same BeforeAll BeforeAll = true
is_same BeforeAll (On e) = false
is_same BeforeAll AfterAll = false
is_same (On d) BeforeAll = false
is_same (On d) (On e) = int_eq (number_of d) (number_of e)
is_same (On d) AfterAll = false
is_same AfterAll BeforeAll = false
is_same AfterAll (On e) = false
is_same AfterAll AfterAll = true

-- the table
abbrev pub holds : Relation → Interval → Interval → Bool
holds After a b = is_before (last_end b) (first_end a)
holds Before a b = is_before (last_end a) (first_end b)
holds Disjoint a b = is_before (last_end b) (first_end a) || is_before (last_end a) (first_end b)
holds Intersects a b = not (is_before (last_end b) (first_end a) || is_before (last_end a) (first_end b))
holds Equals a b = is_same (first_end a) (first_end b) && is_same (last_end a) (last_end b)
holds Contains a b = is_before (first_end a) (first_end b) && is_before (last_end b) (last_end a)
holds During a b = is_before (first_end b) (first_end a) && is_before (last_end a) (last_end b)
holds Meets a b = is_same (last_end a) (first_end b)
holds MetBy a b = is_same (first_end a) (last_end b)
holds Starts a b = is_same (first_end a) (first_end b) && is_before (last_end a) (last_end b)
holds StartedBy a b = is_same (first_end a) (first_end b) && is_before (last_end b) (last_end a)
holds Finishes a b = is_same (last_end a) (last_end b) && is_before (first_end b) (first_end a)
holds FinishedBy a b = is_same (last_end a) (last_end b) && is_before (first_end a) (first_end b)
holds Overlaps a b =
    is_before (first_end a) (first_end b) && is_before (first_end b) (last_end a) && is_before (last_end a) (last_end b)
holds OverlappedBy a b =
    is_before (first_end b) (first_end a) && is_before (first_end a) (last_end b) && is_before (last_end b) (last_end a)

-- ---- laws

-- the relation seen from the other interval
abbrev pub mirror : Relation → Relation
mirror After = Before
mirror Before = After
mirror Disjoint = Disjoint
mirror Intersects = Intersects
mirror Equals = Equals
mirror Contains = During
mirror During = Contains
mirror Meets = MetBy
mirror MetBy = Meets
mirror Starts = StartedBy
mirror StartedBy = Starts
mirror Finishes = FinishedBy
mirror FinishedBy = Finishes
mirror Overlaps = OverlappedBy
mirror OverlappedBy = Overlaps

abbrev pub IsFrom : Option Day → ℤ → Type 0
IsFrom None n = Unit {0}
IsFrom (Some day) n = number_of day ≤ℤ n

abbrev pub IsUpTo : Option Day → ℤ → Type 0
IsUpTo None n = Unit {0}
IsUpTo (Some day) n = n ≤ℤ number_of day

-- the day with that number lies in the interval
abbrev pub LiesIn : Interval → ℤ → Type 0
LiesIn days n = IsDayNumber n × IsFrom days.from n × IsUpTo days.to n

-- some day lies in both
abbrev pub ShareDay : Interval → Interval → Type 0
ShareDay a b = (n : ℤ) × LiesIn a n × LiesIn b n
