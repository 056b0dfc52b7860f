-- Days of the proleptic Gregorian calendar by year, month and day of the month (ISO 8601-1:2019, 4.2.1).
use Rattle.std.specs.Prelude.{ℕ, zero, suc, ◌+◌, ◌-◌, ◌&&◌, nat_lt, nat_le, Bool, true, ◌≡◌, if◌then◌else◌, ℤ, pos, ◌+ℤ◌, unsigned_abs}
use Rattle.jiff_core.specs.declared.civil.date.Date.{Date}
use Rattle.jiff_core.specs.Calendar.{days_in_month, days_in_year}

-- the year has that month, and the month that day
abbrev pub is_date : ℕ → ℕ → ℕ → Bool
is_date year month date =
    nat_le 1 month && nat_le month 12 && nat_le 1 date && nat_le date (days_in_month (pos year) month)

-- the calendar's own value of that date
abbrev pub IsDateOf : ℕ → ℕ → ℕ → Date → Type 0
IsDateOf year month date d =
    (is_date year month date ≡ true) × (d.year ≡ pos year) × (d.month ≡ month) × (d.day ≡ date)

-- among the next years, from 1 January of `year` on: the year that holds the day this many days later, and the days left in it
unfoldable pub year_from : ℕ → ℕ → ℕ → ℕ × ℕ
year_from zero year days = (year, days)
year_from (suc years) year days =
    if nat_lt days (days_in_year (pos year)) then (year, days)
    else year_from years (year + 1) (days - days_in_year (pos year))

-- the same among the next months of a year
unfoldable pub month_from : ℕ → ℕ → ℕ → ℕ → ℕ × ℕ
month_from zero year month days = (month, days)
month_from (suc months) year month days =
    if nat_lt days (days_in_month (pos year) month) then (month, days)
    else month_from months year (month + 1) (days - days_in_month (pos year) month)

-- a year, a month and a day of the month
pub record CivilDate : Type 0 where
  pub year : ℕ
  pub month : ℕ
  pub date : ℕ

-- the date of a day from 0000-01-01 on: its year, and in that its month, by counting off whole years and then whole months
unfoldable pub civil_date : ℤ → CivilDate
civil_date number =
    let year = year_from 9999 0 (unsigned_abs (number +ℤ pos 719528)) in
    let month = month_from 11 year.0 1 year.1 in
    record { year = year.0; month = month.0; date = month.1 + 1 }
