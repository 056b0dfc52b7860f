-- A number that grows by one digit, and numbers that are below the most.
use Rattle.std.proofs.Common.{◌≡◌, ℕ, ◌+◌, ◌-◌, ◌*◌, ◌<◌, ◌≤◌, min, Bool, true, false, ◌&&◌, ◌⊎◌, inl, inr, Some, None, List, length, take, get_or, refl, ap, ◌∙◌, arith}
use Rattle.std.proofs.lemmas.Bool.{and_from}
use Rattle.std.proofs.lemmas.List.Folds.{list_all_more}
use Rattle.std.proofs.lemmas.Int.Digits.{digits_value_more}
use Rattle.std.proofs.lemmas.Str.Parse.{digits_value_short}
use Rattle.std.proofs.lemmas.Str.{digit_value_digit}
use Rattle.std.specs.List.{list_all}
use Rattle.std.specs.Char.{is_ascii_digit, digit_value}
use Rattle.std.specs.Str.Parse.{digits_value}
use Rattle.std.specs.Prelude.{option_map, nat_lt, if◌then◌else◌}
use Rattle.cad_io.specs.Decimals.{is_number, number_in}
use Rattle.cad_io.specs.lemmas.DigitLemmas.{digit_bounds, digit_model}

-- one more digit, where a number above the most counts as the most
capped_more : (v n m d : ℕ) → n ≡ min 1000000000000000000 v → m ≡ min 1000000000000000000 (n * 10 + d) → m ≡ min 1000000000000000000 (v * 10 + d)
capped_more v n m d before after = omega (arith, before, after)

pub one_digit_more : (digits : List ℕ) (i n m : ℕ) → i < length digits
    → (list_all is_ascii_digit (take i digits) ≡ true) × (n ≡ min 1000000000000000000 (digits_value 10 (take i digits)))
    → is_ascii_digit (get_or digits i 0) ≡ true → m ≡ min 1000000000000000000 (n * 10 + (get_or digits i 0 - 48))
    → (list_all is_ascii_digit (take (i + 1) digits) ≡ true) × (m ≡ min 1000000000000000000 (digits_value 10 (take (i + 1) digits)))
one_digit_more digits i n m below before digit after =
    let d = get_or digits i 0 in
    let worth : digit_value d ≡ d - 48 = omega (arith, digit_value_digit d (digit_bounds d digit)) in
    let value = digits_value_more 10 digits i below in (
      list_all_more is_ascii_digit digits i 0 below ∙ and_from _ _ before.0 digit,
      capped_more (digits_value 10 (take i digits)) n m (d - 48) before.1 after ∙ ap (min 1000000000000000000) (omega (arith, value, worth)),
    )

-- a number of 18 digits is below the most
short_number : (t : Bool) (digits : List ℕ) → (list_all is_ascii_digit digits ≡ true) ⊎ (t ≡ false) → length digits ≤ 18
    → option_map (min 1000000000000000000) (if t then Some (digits_value 10 digits) else None) ≡ (if t then Some (digits_value 10 digits) else None)
short_number false digits h short = refl
short_number true digits (inl all) short =
    let below : digits_value 10 digits < 1000000000000000000 = digits_value_short digit_model digits 18 all short in
    ap Some (omega (arith, below))
short_number true digits (inr never) short = absurd (let e : true ≡ false = never in cc)

digits_or_none : (a b : Bool) → (b ≡ true) ⊎ ((a && b) ≡ false)
digits_or_none a true = inl refl
digits_or_none true false = inr refl
digits_or_none false false = inr refl

-- of at most 18 digits the number is told as it is
pub short_number_in : (digits : List ℕ) → length digits ≤ 18 → option_map (min 1000000000000000000) (number_in digits) ≡ number_in digits
short_number_in digits short =
    short_number (is_number digits) digits (digits_or_none (nat_lt 0 (length digits)) (list_all is_ascii_digit digits)) short
