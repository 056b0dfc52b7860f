-- Dates as text, and back.
use Rattle.std.proofs.Common.{◌≡◌, ℕ, ◌<◌, ◌≤◌, Bool, true, false, refl, ap, arith, List, Option, Some, None, option_map, Result, Ok, Err, MatchResult, MatchOption, IsOk, is_ok, OnOk, IfOk, ◌↔◌, ◌∙◌, ◌++◌, if◌then◌else◌, ℤ, pos}
use Rattle.std.proofs.lemmas.Bool.{le-leb, leb-true, and_parts}
use Rattle.std.proofs.lemmas.Int.{ints}
use Rattle.std.specs.Result.{result_ok}
use Rattle.jiff_core.specs.declared.civil.date.Date.{Date}
use Rattle.jiff_core.specs.declared.error.Error.{Error}
use Rattle.jiff_core.specs.Calendar.{IsDate, days_in_month}
use Rattle.jiff_core.specs.Date.{IsYmd}
use Rattle.jiff_core.proofs.SignedLemmas.{signed_arith}
use Rattle.cad_day.specs.Calendar.{is_date, IsDateOf}
use Rattle.cad_day.specs.declared.day.Day.{Day}
use Rattle.cad_day.specs.Days.{number_of}
use Rattle.cad_day.specs.DayNumbers.{IsDayNumber}

-- what is accepted of each text is accepted of one
pub ok_of_text : {T E : Type 0} (r : Result T E) (U : Type 0) (P : T → Type 0) (Q : E → Type 0) → MatchResult r P (λ e. ¬ U × Q e) → U → IsOk r
ok_of_text (Ok x) U P Q h u = refl
ok_of_text (Err e) U P Q h u = absurd (h.0 u)

-- a day with a known number is there
pub day_with_number : (r : Option Day) (number : ℤ) → IsDayNumber number → MatchOption r (¬ IsDayNumber number) (λ day. number_of day ≡ number) → option_map number_of r ≡ Some number
day_with_number None number known h = absurd (h known)
day_with_number (Some day) number known h = ap (λ (n : ℤ). Some n) h

date_is : (year month date : ℕ) → IsDate (pos year) (pos month) (pos date) → is_date year month date ≡ true
date_is year month date h =
    let low : 1 ≤ month = omega (arith, signed_arith) in
    let high : month ≤ 12 = omega (arith, signed_arith) in
    let first : 1 ≤ date = omega (arith, signed_arith) in
    let last : date ≤ days_in_month (pos year) month = omega (arith, signed_arith) in
    rw (le-leb 1 month low, le-leb month 12 high, le-leb 1 date first, le-leb date _ last) refl

pub is_date_then : (year month date : ℕ) → year < 10000 → is_date year month date ≡ true → IsDate (pos year) (pos month) (pos date)
is_date_then year month date small h =
    let last = and_parts _ _ h in
    let first = and_parts _ _ last.0 in
    let within = and_parts _ _ first.0 in
    let from : 1 ≤ month = leb-true 1 month within.0 in
    let to : month ≤ 12 = leb-true month 12 within.1 in
    let low : 1 ≤ date = leb-true 1 date first.1 in
    let high : date ≤ days_in_month (pos year) month = leb-true date _ last.1 in
    ((omega (arith, signed_arith), omega (arith, signed_arith)), (omega (arith, signed_arith), omega (arith, signed_arith)), (omega (arith, signed_arith), omega (arith, signed_arith)))

-- what jiff's calendar answers
pub date_of_new : (r : Result Date Error) (year month date : ℕ) → year < 10000 → (IsOk r ↔ IsDate (pos year) (pos month) (pos date)) → IfOk r (IsYmd (pos year) (pos month) (pos date)) → MatchOption (result_ok r) (is_date year month date ≡ false) (IsDateOf year month date)
date_of_new (Ok d) year month date small succeeds value =
    (date_is year month date (succeeds.0 refl), value.0, grind (arith, ints), grind (arith, ints))
date_of_new (Err e) year month date small succeeds value =
    none (is_date year month date) refl
  where
    none : (b : Bool) → is_date year month date ≡ b → b ≡ false
    none true is = let accepted : false ≡ true = succeeds.1 (is_date_then year month date small is) in cc
    none false is = refl

-- what was appended where the call was accepted
pub appended_if_ok : {T E : Type 0} (r : Result T E) (old new piece text : List ℕ) → new ≡ (if is_ok r then old ++ piece else old) → piece ≡ text → OnOk r (new ≡ old ++ text)
appended_if_ok (Ok x) old new piece text e same = e ∙ ap (λ (s : List ℕ). old ++ s) same
appended_if_ok (Err e) old new piece text e' same = tt
