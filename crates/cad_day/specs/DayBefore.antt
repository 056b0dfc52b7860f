-- The day before a day (ISO 8601, calendar days follow one another).
use Rattle.std.specs.Prelude.{◌≡◌, ℤ, pos, ◌-ℤ◌, ◌<ℤ◌}
use Rattle.std.specs.Int.{int_max}
use Rattle.std.proofs.Common.{arith}
use Rattle.std.proofs.lemmas.Int.{ints}
use Rattle.cad_day.specs.declared.day.Day.{Day}
use Rattle.cad_day.specs.DayNumbers.{IsDayNumber, first_number}
use Rattle.cad_day.specs.Days.{number_of}

-- one less, or for the very first day that day itself
abbrev pub number_before : Day → ℤ
number_before day = int_max first_number (number_of day -ℤ pos 1)

pub before_is_day : (day : Day) → IsDayNumber (number_before day)
before_is_day day = grind (arith, ints, day.in_range.0, day.in_range.1)

abbrev pub day_before : Day → Day
day_before day = record { number = number_before day; in_range = before_is_day day }

pub number_of-day_before : (early day : Day) → number_of early <ℤ number_of day → number_of (day_before day) ≡ number_of day -ℤ pos 1
number_of-day_before early day h = grind (arith, ints, early.in_range.0)
