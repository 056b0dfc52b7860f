-- The text of a date is ASCII.
use Rattle.std.proofs.Common.{ℕ, ◌<◌, arith, List, [], ◌∷◌}
use Rattle.std.specs.Str.{IsUtf8, IsAscii}
use Rattle.std.proofs.lemmas.Str.{IsUtf8-from_ascii}
use Rattle.std.proofs.lemmas.Str.Ascii.{IsAscii-cons, IsAscii-nil}
use Rattle.cad_day.specs.DayTexts.{date_text, digit}

digit_below : (weight n : ℕ) → digit weight n < 128
digit_below weight n = omega arith

-- digits and dashes are text
pub date_text_utf8 : (year month date : ℕ) → IsUtf8 (date_text year month date)
date_text_utf8 year month date =
    let dash : 45 < 128 = omega arith in
    let two = λ (n : ℕ). digit 10 n ∷ digit 1 n ∷ [] in
    let of_two = λ (n : ℕ) (rest : List ℕ) (h : IsAscii rest). IsAscii-cons (digit 10 n) (digit 1 n ∷ rest) (digit_below 10 n) (IsAscii-cons (digit 1 n) rest (digit_below 1 n) h) in
    let day = of_two date [] IsAscii-nil in
    let month_on = of_two month (45 ∷ two date) (IsAscii-cons 45 (two date) dash day) in
    let dash_on = IsAscii-cons 45 (digit 10 month ∷ digit 1 month ∷ 45 ∷ two date) dash month_on in
    let tens_on = of_two year (45 ∷ digit 10 month ∷ digit 1 month ∷ 45 ∷ two date) dash_on in
    let hundreds_on = IsAscii-cons (digit 100 year) (digit 10 year ∷ digit 1 year ∷ 45 ∷ digit 10 month ∷ digit 1 month ∷ 45 ∷ two date) (digit_below 100 year) tens_on in
    IsUtf8-from_ascii (date_text year month date)
    (IsAscii-cons (digit 1000 year) (digit 100 year ∷ digit 10 year ∷ digit 1 year ∷ 45 ∷ digit 10 month ∷ digit 1 month ∷ 45 ∷ two date) (digit_below 1000 year) hundreds_on)
