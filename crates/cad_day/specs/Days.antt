-- What clauses see of days and of the ends of an interval.
use Rattle.std.specs.Prelude.{ℤ, ◌<ℤ◌, Option, Some, None}
use Rattle.cad_day.specs.declared.day.Day.{Day}

-- days from 1970-01-01, negative before it
abbrev pub number_of : Day → ℤ
number_of day = day.number

-- both ends are days, and the last lies before the first; an open end lies beyond every day (own profile)
abbrev pub IsTurned : Option Day → Option Day → Type 0
IsTurned None to = ⊥
IsTurned (Some first) None = ⊥
IsTurned (Some first) (Some last) = number_of last <ℤ number_of first
