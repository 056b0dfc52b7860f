-- Days as text: a calendar date in extended format, YYYY-MM-DD (ISO 8601-1:2019, 5.2.2.1).
use Rattle.std.specs.Prelude.{◌≡◌, ◌↔◌, ℕ, ◌+◌, ◌-◌, ◌*◌, ◌/◌, ◌%◌, ◌==◌, ◌&&◌, Bool, if◌then◌else◌, List, [], ◌∷◌, length, slice_index, Option, Some, None, ℤ, pos}
use Rattle.std.specs.Option.{option_and_then}
use Rattle.std.specs.Char.{is_ascii_digit}
use Rattle.jiff_core.specs.Calendar.{IsCivilDate, days_from_civil}
use Rattle.cad_day.specs.Calendar.{is_date, civil_date}

-- the decimal digit with that weight, in ASCII
abbrev pub digit : ℕ → ℕ → ℕ
digit weight n = 48 + n / weight % 10

-- YYYY-MM-DD
abbrev pub date_text : ℕ → ℕ → ℕ → List ℕ
date_text year month date =
    digit 1000 year ∷ digit 100 year ∷ digit 10 year ∷ digit 1 year
    ∷ 45 ∷ digit 10 month ∷ digit 1 month ∷ 45 ∷ digit 10 date ∷ digit 1 date ∷ []

-- the text is the date of the day with that number
pub record Names (text : List ℕ) (number : ℤ) : Type 0 where
  pub year : ℕ
  pub month : ℕ
  pub date : ℕ
  pub in_calendar : IsCivilDate (pos year) month date
  pub spelt : text ≡ date_text year month date
  pub counted : number ≡ days_from_civil (pos year) month date

-- ---- the same as two functions

-- the text of the day with that number
abbrev pub day_text : ℤ → List ℕ
day_text number =
    let civil = civil_date number in date_text civil.year civil.month civil.date

-- the number that two ASCII digits spell, at that place of the text
abbrev pub two_digits : List ℕ → ℕ → Option ℕ
two_digits text place =
    if is_ascii_digit (slice_index text place) && is_ascii_digit (slice_index text (place + 1))
    then Some ((slice_index text place - 48) * 10 + (slice_index text (place + 1) - 48)) else None

-- ten bytes, with dashes between year, month and day
abbrev pub has_dashes : List ℕ → Bool
has_dashes text = (length text == 10) && (slice_index text 4 == 45) && (slice_index text 7 == 45)

-- the number of the day with that year, month and day of the month, if the calendar has it
abbrev pub day_of_date : ℕ → ℕ → ℕ → Option ℤ
day_of_date year month date =
    if is_date year month date then Some (days_from_civil (pos year) month date) else None

abbrev pub day_of_digits : List ℕ → Option ℤ
day_of_digits text =
    option_and_then (λ century. option_and_then (λ year. option_and_then (λ month. option_and_then (λ date.
    day_of_date (century * 100 + year) month date)
    (two_digits text 8)) (two_digits text 5)) (two_digits text 2)) (two_digits text 0)

-- the number of the day that the text names, if it names one
abbrev pub day_named : List ℕ → Option ℤ
day_named text = if has_dashes text then day_of_digits text else None

-- ---- laws

-- the functions are the relation: a text is read as the day that it names, and no other
abbrev pub ReadsWhatIsNamed : List ℕ → ℤ → Type 0
ReadsWhatIsNamed text number = (day_named text ≡ Some number) ↔ Names text number

-- each day has one text
abbrev pub HasOneText : List ℕ → ℤ → Type 0
HasOneText text number = Names text number → text ≡ day_text number
