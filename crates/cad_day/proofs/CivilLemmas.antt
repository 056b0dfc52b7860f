-- Dates counted off by years and months are the calendar's.
use Rattle.std.proofs.Common.{◌≡◌, ℕ, zero, suc, ◌+◌, ◌-◌, ◌<◌, ◌≤◌, true, refl, sym, ◌∙◌, ap, arith, nat_lt, inl, inr, ℤ, pos, negsuc, ◌+ℤ◌, ◌≤ℤ◌, unsigned_abs}
use borrow.Author.Differences.{up, down}
use Rattle.std.proofs.lemmas.Bool.{lt-ltb, le-ltb}
use Rattle.std.proofs.Math.Nat.{eq-or-lt_of_le}
use Rattle.jiff_core.specs.Calendar.{IsCivilDate, days_from_civil, day_count, day_of_year, days_of_months, days_in_year, days_in_month}
use Rattle.jiff_core.proofs.CalendarLemmas.{day_count-day_of_year, day_of_year_bound, day_count-later_year, day_count-next_year, days_of_months_mono, days_of_months_more, days_of_months-zero, day_count_bounds, day_count-lt_year, days_from_civil-day_count}
use Rattle.jiff_core.proofs.MarchLemmas.{day_count-early}
use Rattle.jiff_core.proofs.SignedLemmas.{signed_arith}
use Rattle.std.proofs.lemmas.Int.{by_lt_z}
use Rattle.jiff_core.specs.declared.civil.date.Date.{Date}
use Rattle.jiff_core.specs.Date.{epoch_day}
use Rattle.jiff_core.proofs.DateLemmas.{civil}
use Rattle.cad_day.specs.Calendar.{year_from, month_from, civil_date}
use Rattle.cad_day.specs.DayNumbers.{IsDayNumber}

-- years are counted off up to the date's own
pub year_from_is : (years start year month date days : ℕ) → IsCivilDate (pos year) month date → start ≤ year → year ≤ start + years → days + day_count (pos start) 1 1 ≡ day_count (pos year) month date → year_from years start days ≡ (year, day_of_year (pos year) month date - 1)
unfolding year_from
year_from_is zero start year month date days civil low high e =
    let same : start ≡ year = omega arith in
    let here = rw same at e in
    let left : days ≡ day_of_year (pos year) month date - 1 = omega (arith, here, day_count-day_of_year (pos year) month date civil.2.0) in
    cc
year_from_is (suc years) start year month date days civil low high e =
    elim (eq-or-lt_of_le low) [
      | inl same ↦
          let here = rw same at e in
          let left : days ≡ day_of_year (pos year) month date - 1 = omega (arith, here, day_count-day_of_year (pos year) month date civil.2.0) in
          let within : days < days_in_year (pos year) = omega (arith, here, left, day_count-day_of_year (pos year) month date civil.2.0, day_of_year_bound (pos year) month date civil) in
          let stops : nat_lt days (days_in_year (pos start)) ≡ true = rw same (lt-ltb _ _ within) in
          rw stops cc
      | inr less ↦
          let later = day_count-later_year (pos start) (pos year) (omega (arith, signed_arith)) (omega (arith, signed_arith)) in
          let beyond : days_in_year (pos start) ≤ days = omega (arith, e, later, day_count-day_of_year (pos year) month date civil.2.0) in
          let next = day_count-next_year (pos start) (pos (start + 1)) (omega (arith, signed_arith)) (omega (arith, signed_arith)) in
          rw (le-ltb _ _ beyond) (year_from_is years (start + 1) year month date (days - days_in_year (pos start)) civil (omega arith) (omega arith) (omega (arith, e, beyond, next)))
    ]

-- months are counted off up to the date's own
pub month_from_is : (months start year month date days : ℕ) → IsCivilDate (pos year) month date → 1 ≤ start → start ≤ month → month ≤ start + months → days + 1 + days_of_months (pos year) (start - 1) ≡ day_of_year (pos year) month date → month_from months year start days ≡ (month, date - 1)
unfolding month_from
month_from_is zero start year month date days civil first low high e =
    let same : start ≡ month = omega arith in
    let here = rw same at e in
    let left : days ≡ date - 1 = omega (arith, here) in
    cc
month_from_is (suc months) start year month date days civil first low high e =
    elim (eq-or-lt_of_le low) [
      | inl same ↦
          let here = rw same at e in
          let left : days ≡ date - 1 = omega (arith, here) in
          let within : days < days_in_month (pos year) month = omega (arith, left, civil.2.0, civil.2.1) in
          let stops : nat_lt days (days_in_month (pos year) start) ≡ true = rw same (lt-ltb _ _ within) in
          rw stops cc
      | inr less ↦
          let more = days_of_months_more (pos year) start first in
          let mono = days_of_months_mono (pos year) start (month - 1) (omega arith) in
          let beyond : days_in_month (pos year) start ≤ days = omega (arith, e, more, mono, civil.2.0) in
          let back : start + 1 - 1 ≡ start = omega arith in
          rw (le-ltb _ _ beyond) (month_from_is months (start + 1) year month date (days - days_in_month (pos year) start) civil (omega arith) (omega arith) (omega arith) (rw back (omega (arith, e, beyond, more))))
    ]

day_count-start : day_count (pos 0) 1 1 ≡ 3652425
day_count-start = day_count-early (pos 0) 9999 1 1 refl (omega arith) (omega arith) (omega arith)

-- no date from the year 0000 on lies before its first day
not_before_start : (year month date : ℕ) → IsCivilDate (pos year) month date → day_count (pos 0) 1 1 ≤ day_count (pos year) month date
not_before_start zero month date civil = omega (arith, day_count-day_of_year (pos 0) month date civil.2.0)
not_before_start (suc year) month date civil =
    omega (arith, day_count-later_year (pos 0) (pos (suc year)) (omega (arith, signed_arith)) (omega (arith, signed_arith)), day_count-day_of_year (pos (suc year)) month date civil.2.0)

abs_of_nonnegative : (z : ℤ) → down z ≤ up z → unsigned_abs z + down z ≡ up z
abs_of_nonnegative (pos n) h = omega arith
abs_of_nonnegative (negsuc n) h = omega arith

-- the days from 0000-01-01 to a date
days_since_start : (year month date : ℕ) → IsCivilDate (pos year) month date → unsigned_abs (days_from_civil (pos year) month date +ℤ pos 719528) + day_count (pos 0) 1 1 ≡ day_count (pos year) month date
days_since_start year month date civil =
    let number = days_from_civil-day_count (pos year) month date in
    let start = not_before_start year month date civil in
    let since = abs_of_nonnegative (days_from_civil (pos year) month date +ℤ pos 719528) (omega (arith, signed_arith, number, start, day_count-start)) in
    omega (arith, signed_arith, number, start, day_count-start, since)

-- counting off gives the date whose number it is
pub civil_date_is : (year month date : ℕ) → IsCivilDate (pos year) month date → civil_date (days_from_civil (pos year) month date) ≡ record { year = year; month = month; date = date }
unfolding civil_date
civil_date_is year month date civil =
    let of_year = year_from_is 9999 0 year month date _ civil (omega arith) (omega (arith, signed_arith)) (days_since_start year month date civil) in
    let first = days_of_months-zero (pos year) in
    let of_month = month_from_is 11 1 year month date (day_of_year (pos year) month date - 1) civil (omega arith) (omega arith) (omega arith) (omega (arith, first, civil.2.0)) in
    let last : date - 1 + 1 ≡ date = omega (arith, civil.2.0) in
    rw (of_year, of_month, last) refl

-- each date from the year 0000 on has the number of a day
pub in_day_numbers : (year month date : ℕ) → IsCivilDate (pos year) month date → IsDayNumber (days_from_civil (pos year) month date)
in_day_numbers year month date civil =
    omega (arith, signed_arith, days_from_civil-day_count (pos year) month date, not_before_start year month date civil, day_count-start, day_count_bounds _ _ _ civil)

-- a date with the number of a day has no year before 0000
year_from_number : (d : Date) → IsDayNumber (epoch_day d) → pos 0 ≤ℤ d.year
year_from_number d known = by_lt_z d.year (pos 0)
    (λ before. absurd (omega (arith, signed_arith, days_from_civil-day_count d.year d.month d.day, day_count-lt_year d.year d.month d.day (pos 0) 1 1 (civil d) (omega arith) before, day_count-start)))
    (λ from. from)

year_is : (year : ℤ) → pos 0 ≤ℤ year → year ≡ pos (unsigned_abs year)
year_is (pos n) h = refl
year_is (negsuc n) h = absurd (omega (arith, signed_arith))

-- a date of jiff's as a year, month and day of the month
pub calendar_of : (d : Date) (number : ℤ) → IsDayNumber number → epoch_day d ≡ number → IsCivilDate (pos (unsigned_abs d.year)) d.month d.day × (number ≡ days_from_civil (pos (unsigned_abs d.year)) d.month d.day)
calendar_of d number known e =
    let year = year_is d.year (year_from_number d (rw (← e) at known)) in
    (rw year at (civil d), sym e ∙ ap (λ (y : ℤ). days_from_civil y d.month d.day) year)
