-- Decimal digits as std reads them.
use Rattle.std.proofs.Common.{◌≡◌, refl, ℕ, ◌<◌, ◌^◌, true, false, List, [], ◌∷◌, length, Some, None, Result, Ok, Err, nat_eq, nat_lt, if◌then◌else◌, arith}
use Rattle.std.proofs.lemmas.Bool.Decides.{nat_tests}
use Rattle.std.specs.Char.{is_ascii_digit, digit_value}
use Rattle.std.specs.List.{list_all}
use Rattle.std.specs.Result.{result_ok, OkIff}
use Rattle.std.specs.Str.Parse.{AllDigits, IsNumeral, digits_value, without_leading_plus}
use Rattle.std.proofs.lemmas.Bool.{and_parts}

digit_is : (c : ℕ) → is_ascii_digit c ≡ true → digit_value c < 10
digit_is c h = grind (arith, nat_tests)

all_digits : (ds : List ℕ) → list_all is_ascii_digit ds ≡ true → AllDigits 10 ds
all_digits [] h = tt
all_digits (c ∷ cs) h = let p = and_parts (is_ascii_digit c) (list_all is_ascii_digit cs) h in (digit_is c p.0, all_digits cs p.1)

no_plus : (ds : List ℕ) → list_all is_ascii_digit ds ≡ true → without_leading_plus ds ≡ ds
no_plus [] h = refl
no_plus (c ∷ cs) h =
    let p = and_parts (is_ascii_digit c) (list_all is_ascii_digit cs) h in
    let not_plus : nat_eq c 43 ≡ false = let q = p.0 in grind (arith, nat_tests) in
    rw not_plus refl

below : (n : ℕ) → n < 2 ^ 64 → nat_lt n 18446744073709551616 ≡ true
below n h = grind (arith, nat_tests)

not_below : (n : ℕ) → ¬ (n < 2 ^ 64) → nat_lt n 18446744073709551616 ≡ false
not_below n h = grind (arith, nat_tests)

pub parsed_is : {E : Type 0} (ds : List ℕ) (r : Result ℕ E) → list_all is_ascii_digit ds ≡ true → 0 < length ds →
    OkIff r (IsNumeral 10 (without_leading_plus ds) × (digits_value 10 (without_leading_plus ds) < 2 ^ 64)) (digits_value 10 (without_leading_plus ds)) →
    result_ok r ≡ (if nat_lt (digits_value 10 ds) 18446744073709551616 then Some (digits_value 10 ds) else None)
parsed_is ds (Ok n) all some h =
    let k = rw (no_plus ds all) at h in
    rw (below (digits_value 10 ds) k.0.1, k.1) refl
parsed_is ds (Err e) all some h =
    let k = rw (no_plus ds all) at h in
    rw (not_below (digits_value 10 ds) (λ fits. k ((some, all_digits ds all), fits))) refl
