-- Reading finds the day that a text names.
use Rattle.std.proofs.Common.{◌≡◌, ℕ, ◌+◌, ◌-◌, ◌*◌, ◌/◌, ◌%◌, ◌<◌, ◌≤◌, ◌&&◌, Bool, true, false, refl, sym, ◌∙◌, arith, if◌then◌else◌, List, [], ◌∷◌, length, Option, Some, None, ℤ, pos, nat_eq}
use Rattle.std.specs.Prelude.{slice_index}
use Rattle.std.specs.Char.{is_ascii_digit}
use Rattle.std.specs.Option.{option_and_then}
use Rattle.std.proofs.lemmas.Bool.{and_parts, eqb-true, le-leb}
use Rattle.std.proofs.lemmas.Bool.Decides.{nat_tests}
use Rattle.jiff_core.specs.Calendar.{IsCivilDate, days_from_civil}
use Rattle.jiff_core.proofs.CalendarLemmas.{days_in_month_bounds}
use Rattle.jiff_core.proofs.SignedLemmas.{signed_arith}
use Rattle.cad_day.proofs.CivilLemmas.{civil_date_is}
use Rattle.cad_day.proofs.DayTextLemmas.{is_date_then}
use Rattle.cad_day.specs.Calendar.{is_date}
use Rattle.cad_day.specs.DayTexts.{Names, date_text, digit, two_digits, has_dashes, day_of_date, day_of_digits, day_named, day_text}

-- ---- steps that may fail

pub if_some : {T : Type 0} (b : Bool) (x : Option T) (v : T) → (if b then x else None) ≡ Some v → (b ≡ true) × (x ≡ Some v)
if_some true x v e = (refl, e)
if_some false x v e = cc

pub then_some : {S T : Type 0} (f : S → Option T) (o : Option S) (v : T) → option_and_then f o ≡ Some v → (x : S) × (o ≡ Some x) × (f x ≡ Some v)
then_some f None v e = cc
then_some f (Some x) v e = (x, refl, e)

-- ---- digits

is_digit_of : (n : ℕ) → n < 10 → is_ascii_digit (48 + n) ≡ true
is_digit_of n h = grind (arith, nat_tests)

digit_range : (c : ℕ) → is_ascii_digit c ≡ true → (48 ≤ c) × (c ≤ 57)
digit_range c h = grind (arith, nat_tests)

-- two digits are read as they are spelt
read_pair : (text : List ℕ) (place tens units : ℕ) → slice_index text place ≡ 48 + tens → slice_index text (place + 1) ≡ 48 + units → tens < 10 → units < 10 → two_digits text place ≡ Some (tens * 10 + units)
read_pair text place tens units first second t u =
    let a : 48 + tens - 48 ≡ tens = omega arith in
    let b : 48 + units - 48 ≡ units = omega arith in
    rw (first, second, is_digit_of tens t, is_digit_of units u, a, b) refl

-- and spelt as they are read
record IsPair (tens units n : ℕ) : Type 0 where
  pub below : n < 100
  pub first : digit 10 n ≡ tens
  pub second : digit 1 n ≡ units

pair_of : (a b n : ℕ) → is_ascii_digit a ≡ true → is_ascii_digit b ≡ true → (a - 48) * 10 + (b - 48) ≡ n → IsPair a b n
pair_of a b n x y e =
    let p = digit_range a x in
    let q = digit_range b y in
    record { below = omega arith; first = omega arith; second = omega arith }

spelt_pair : (text : List ℕ) (place n : ℕ) → two_digits text place ≡ Some n → IsPair (slice_index text place) (slice_index text (place + 1)) n
spelt_pair text place n e =
    let a = slice_index text place in
    let b = slice_index text (place + 1) in
    let parts = if_some (is_ascii_digit a && is_ascii_digit b) (Some ((a - 48) * 10 + (b - 48))) n e in
    let digits = and_parts (is_ascii_digit a) (is_ascii_digit b) parts.0 in
    let value : (a - 48) * 10 + (b - 48) ≡ n = cc parts.1 in
    pair_of a b n digits.0 digits.1 value

-- ---- texts of ten bytes

ten_bytes : (t : List ℕ) → length t ≡ 10 → t ≡ slice_index t 0 ∷ slice_index t 1 ∷ slice_index t 2 ∷ slice_index t 3 ∷ slice_index t 4 ∷ slice_index t 5 ∷ slice_index t 6 ∷ slice_index t 7 ∷ slice_index t 8 ∷ slice_index t 9 ∷ []
ten_bytes (a ∷ b ∷ c ∷ d ∷ e ∷ f ∷ g ∷ h ∷ i ∷ j ∷ []) n = refl
ten_bytes (a ∷ b ∷ c ∷ d ∷ e ∷ f ∷ g ∷ h ∷ i ∷ j ∷ k ∷ rest) n = absurd (omega arith)
ten_bytes _ n = absurd (omega arith)

-- ---- the law

date_is : (year month date : ℕ) → IsCivilDate (pos year) month date → is_date year month date ≡ true
date_is year month date h =
    rw (le-leb 1 month h.1.0, le-leb month 12 h.1.1, le-leb 1 date h.2.0, le-leb date _ h.2.1) refl

date_then : (year month date : ℕ) → year < 10000 → is_date year month date ≡ true → IsCivilDate (pos year) month date
date_then year month date small h =
    let parts = is_date_then year month date small h in
    ((omega (arith, signed_arith), omega (arith, signed_arith)), (omega (arith, signed_arith), omega (arith, signed_arith)), (omega (arith, signed_arith), omega (arith, signed_arith)))

-- the digits of a year of four
year_digits : (century rest : ℕ) → century < 100 → rest < 100 → (digit 1000 (century * 100 + rest) ≡ digit 10 century) × (digit 100 (century * 100 + rest) ≡ digit 1 century) × (digit 10 (century * 100 + rest) ≡ digit 10 rest) × (digit 1 (century * 100 + rest) ≡ digit 1 rest)
year_digits century rest c r = (omega arith, omega arith, omega arith, omega arith)

digits_give : (text : List ℕ) (century year month date : ℕ) (number : ℤ) → has_dashes text ≡ true → two_digits text 0 ≡ Some century → two_digits text 2 ≡ Some year → two_digits text 5 ≡ Some month → two_digits text 8 ≡ Some date → day_of_date (century * 100 + year) month date ≡ Some number → day_named text ≡ Some number
digits_give text century year month date number dashes a b c d e = rw (dashes, a, b, c, d) e

given_date : (year month date : ℕ) (number : ℤ) → IsCivilDate (pos year) month date → number ≡ days_from_civil (pos year) month date → day_of_date year month date ≡ Some number
given_date year month date number known counted = rw (date_is year month date known, counted) refl

-- a text that names a day is read as that day
pub read_of_named : (text : List ℕ) (number : ℤ) → Names text number → day_named text ≡ Some number
read_of_named text number h =
    let year = h.year in
    let month = h.month in
    let date = h.date in
    let small : year < 10000 = omega (arith, signed_arith, h.in_calendar.0) in
    let known = h.in_calendar in
    let high : date ≤ 31 = omega (arith, known.2.1, days_in_month_bounds (pos year) month) in
    let t = date_text year month date in
    let a = read_pair t 0 (year / 1000 % 10) (year / 100 % 10) refl refl (omega arith) (omega arith) in
    let b = read_pair t 2 (year / 10 % 10) (year / 1 % 10) refl refl (omega arith) (omega arith) in
    let c = read_pair t 5 (month / 10 % 10) (month / 1 % 10) refl refl (omega arith) (omega arith) in
    let d = read_pair t 8 (date / 10 % 10) (date / 1 % 10) refl refl (omega arith) (omega arith) in
    let of_year : (year / 1000 % 10 * 10 + year / 100 % 10) * 100 + (year / 10 % 10 * 10 + year / 1 % 10) ≡ year = omega arith in
    let of_month : month / 10 % 10 * 10 + month / 1 % 10 ≡ month = omega (arith, known.1.1) in
    let of_date : date / 10 % 10 * 10 + date / 1 % 10 ≡ date = omega arith in
    rw h.spelt (digits_give t _ _ _ _ number refl a b c d (rw (of_year, of_month, of_date) (given_date year month date number known h.counted)))

ten_equal : (a b c d e f g h i j a' b' c' d' e' f' g' h' i' j' : ℕ) → a ≡ a' → b ≡ b' → c ≡ c' → d ≡ d' → e ≡ e' → f ≡ f' → g ≡ g' → h ≡ h' → i ≡ i' → j ≡ j' → ◌≡◌ {A = List ℕ} (a ∷ b ∷ c ∷ d ∷ e ∷ f ∷ g ∷ h ∷ i ∷ j ∷ []) (a' ∷ b' ∷ c' ∷ d' ∷ e' ∷ f' ∷ g' ∷ h' ∷ i' ∷ j' ∷ [])
ten_equal a b c d e f g h i j a' b' c' d' e' f' g' h' i' j' pa pb pc pd pe pf pg ph pi pj = cc

-- the ten bytes that are read
spelt_as_read : (text : List ℕ) (century year month date : ℕ) → has_dashes text ≡ true → two_digits text 0 ≡ Some century → two_digits text 2 ≡ Some year → two_digits text 5 ≡ Some month → two_digits text 8 ≡ Some date → text ≡ date_text (century * 100 + year) month date
spelt_as_read text century year month date dashes a b c d =
    let last = and_parts (nat_eq (length text) 10 && nat_eq (slice_index text 4) 45) (nat_eq (slice_index text 7) 45) dashes in
    let first = and_parts (nat_eq (length text) 10) (nat_eq (slice_index text 4) 45) last.0 in
    let ten = ten_bytes text (eqb-true (length text) 10 first.0) in
    let dash : slice_index text 4 ≡ 45 = eqb-true _ 45 first.1 in
    let dash_too : slice_index text 7 ≡ 45 = eqb-true _ 45 last.1 in
    let high = spelt_pair text 0 century a in
    let low = spelt_pair text 2 year b in
    let of_month = spelt_pair text 5 month c in
    let of_date = spelt_pair text 8 date d in
    let of_year = year_digits century year high.below low.below in
    ten ∙ ten_equal _ _ _ _ _ _ _ _ _ _ _ _ _ _ _ _ _ _ _ _
    (sym high.first ∙ sym of_year.0) (sym high.second ∙ sym of_year.1) (sym low.first ∙ sym of_year.2) (sym low.second ∙ sym of_year.3) dash
    (sym of_month.first) (sym of_month.second) dash_too (sym of_date.first) (sym of_date.second)

named_by_digits : (text : List ℕ) (century year month date : ℕ) (number : ℤ) → has_dashes text ≡ true → two_digits text 0 ≡ Some century → two_digits text 2 ≡ Some year → two_digits text 5 ≡ Some month → two_digits text 8 ≡ Some date → day_of_date (century * 100 + year) month date ≡ Some number → Names text number
named_by_digits text century year month date number dashes a b c d e =
    let known = if_some (is_date (century * 100 + year) month date) (Some (days_from_civil (pos (century * 100 + year)) month date)) number e in
    let high = (spelt_pair text 0 century a).below in
    let low = (spelt_pair text 2 year b).below in
    record {
      year = century * 100 + year;
      month = month;
      date = date;
      in_calendar = date_then (century * 100 + year) month date (omega arith) known.0;
      spelt = spelt_as_read text century year month date dashes a b c d;
      counted = cc known.1;
    }

-- and a text that is read names the day
pub named_of_read : (text : List ℕ) (number : ℤ) → day_named text ≡ Some number → Names text number
named_of_read text number e =
    let dashes = if_some (has_dashes text) (day_of_digits text) number e in
    let century = then_some (λ (c : ℕ). option_and_then (λ y. option_and_then (λ m. option_and_then (λ d. day_of_date (c * 100 + y) m d) (two_digits text 8)) (two_digits text 5)) (two_digits text 2)) (two_digits text 0) number dashes.1 in
    let year = then_some (λ (y : ℕ). option_and_then (λ m. option_and_then (λ d. day_of_date (century.0 * 100 + y) m d) (two_digits text 8)) (two_digits text 5)) (two_digits text 2) number century.2 in
    let month = then_some (λ (m : ℕ). option_and_then (λ d. day_of_date (century.0 * 100 + year.0) m d) (two_digits text 8)) (two_digits text 5) number year.2 in
    let date = then_some (λ (d : ℕ). day_of_date (century.0 * 100 + year.0) month.0 d) (two_digits text 8) number month.2 in
    named_by_digits text century.0 year.0 month.0 date.0 number dashes.0 century.1 year.1 month.1 date.1 date.2

-- the text of a day is that of its date
pub day_text_is : (year month date : ℕ) (number : ℤ) → IsCivilDate (pos year) month date → number ≡ days_from_civil (pos year) month date → day_text number ≡ date_text year month date
day_text_is year month date number known counted = rw (counted, civil_date_is year month date known) refl

pub text_of_named : (text : List ℕ) (number : ℤ) → Names text number → text ≡ day_text number
text_of_named text number h = h.spelt ∙ sym (day_text_is h.year h.month h.date number h.in_calendar h.counted)

pub names_text : (year month date : ℕ) (number : ℤ) → IsCivilDate (pos year) month date → number ≡ days_from_civil (pos year) month date → Names (day_text number) number
names_text year month date number known counted =
    record { year = year; month = month; date = date; in_calendar = known; spelt = day_text_is year month date number known counted; counted = counted }
