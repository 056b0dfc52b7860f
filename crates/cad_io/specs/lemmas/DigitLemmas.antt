-- Texts of decimal digits, and the numbers that they spell.
use Rattle.std.proofs.Common.{◌≡◌, ℕ, ◌-◌, true, List, refl, arith}
use Rattle.std.proofs.lemmas.Bool.Decides.{nat_tests}
use Rattle.std.proofs.lemmas.Bool.{and_parts, and_from}
use Rattle.std.proofs.lemmas.Str.Parse.{IsDigitsTest, IsNumeralModel, numerals_by_value}
use Rattle.std.specs.List.{list_all}
use Rattle.std.specs.Int.{IsInRange}
use Rattle.std.specs.Char.{is_ascii_digit}
use Rattle.std.specs.Str.Parse.{digits_value}

pub digit_bounds : (c : ℕ) → is_ascii_digit c ≡ true → IsInRange 48 57 c
digit_bounds c digit = grind (arith, nat_tests)

digit_test : (c : ℕ) → IsInRange 48 57 c → is_ascii_digit c ≡ true
digit_test c bounds = let low = bounds.0 in let high = bounds.1 in grind (arith, nat_tests)

digit_texts : IsDigitsTest (λ (ds : List ℕ). list_all is_ascii_digit ds ≡ true)
digit_texts = record {
  empty = refl;
  parts = λ c cs digits. let both = and_parts (is_ascii_digit c) (list_all is_ascii_digit cs) digits in (digit_bounds c both.0, both.1);
  more = λ c cs bounds digits. and_from _ _ (digit_test c bounds) digits;
}

-- texts of digits, and the numbers that they spell
pub digit_model : IsNumeralModel (λ (ds : List ℕ). list_all is_ascii_digit ds ≡ true) (digits_value 10)
digit_model = numerals_by_value (λ ds. list_all is_ascii_digit ds ≡ true) digit_texts
