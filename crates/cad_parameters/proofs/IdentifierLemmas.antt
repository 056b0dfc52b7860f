-- Identifiers read and written.
use Rattle.std.proofs.Common.{◌≡◌, ℕ, ◌+◌, ◌^◌, ◌<◌, ◌≤◌, Bool, true, false, cond, not, ◌&&◌, List, [], ◌∷◌, ◌++◌, Option, Some, None, length, take, drop, get_or, refl, sym, subst, ap, ap₂, ◌∙◌, arith, append_assoc, nat_lt}
use Rattle.std.specs.Prelude.{◌==◌, nat_le, decimal}
use Rattle.std.specs.Option.{option_and_then, option_zip}
use Rattle.std.specs.List.{list_all, position_or_len, before_first, after_first}
use Rattle.std.specs.Char.{is_ascii_digit}
use Rattle.std.specs.Str.Parse.{digits_value}
use Rattle.std.proofs.lemmas.Bool.Decides.{nat_tests}
use Rattle.std.proofs.lemmas.Bool.{and_parts, and_from}
use Rattle.std.proofs.lemmas.List.{take_at, drop_at, length-append}
use Rattle.std.proofs.lemmas.List.Sums.{split_at_first, passes_at_first}
use Rattle.std.proofs.lemmas.Fmt.{decimal_nonempty, digits_decimal, digits_value-decimal, decimal-digits_value, first_decimal}
use Rattle.cad_versions.specs.Limits.{most_number}
use Rattle.cad_parameters.specs.Parts.{is_byte, parted}
use Rattle.cad_io.specs.Decimals.{is_number, number_in}
use Rattle.cad_parameters.specs.Numerals.{counting_number}
use Rattle.cad_parameters.specs.Identifiers.{Numbers, IsVersionNumber, Identifies, identifier_text, both_numbers, identifier_named, ReadsWhatIsIdentified}
use Rattle.cad_io.specs.lemmas.DigitLemmas.{digit_model}

-- ---- numerals

-- the decimal digits of a number are its digits
pub number_in_decimal : (n : ℕ) → n < 2 ^ 64 → number_in (decimal n) ≡ Some n
number_in_decimal n small =
    let some : nat_lt 0 (length (decimal n)) ≡ true = let long = decimal_nonempty n small in grind (arith, nat_tests) in
    let digits = digits_decimal digit_model n small in
    ap (λ t. cond t (Some (digits_value 10 (decimal n))) None) (and_from _ _ some digits) ∙ ap Some (digits_value-decimal digit_model n small)

counting_decimal : (n : ℕ) → IsVersionNumber n → counting_number (decimal n) ≡ Some n
counting_decimal n range =
    let small : n < 2 ^ 64 = omega (arith, range.1) in
    let first = first_decimal n (omega (arith, range.0)) small in
    let no_zero : (get_or (decimal n) 0 0 == 48) ≡ false = grind (arith, nat_tests) in
    let low : nat_le 1 n ≡ true = let l = range.0 in grind (arith, nat_tests) in
    let high : nat_le n most_number ≡ true = let h = range.1 in grind (arith, nat_tests) in
    rw (no_zero, number_in_decimal n small, low, high) refl

-- a counting number is read of its own decimal digits alone
pub record IsCounted (digits : List ℕ) (n : ℕ) : Type 0 where
  pub range : IsVersionNumber n
  pub spelt : decimal n ≡ digits

counted : (digits : List ℕ) (n : ℕ) → counting_number digits ≡ Some n → IsCounted digits n
counted digits n e = by_first (get_or digits 0 0 == 48) refl e
  where
    value : ℕ
    value = digits_value 10 digits

    in_range : (t : Bool) → (nat_le 1 value && nat_le value most_number) ≡ t → is_number digits ≡ true → (get_or digits 0 0 == 48) ≡ false
        → cond t (Some value) None ≡ Some n → IsCounted digits n
    in_range true range number first e =
        let is : value ≡ n = cc in
        let both = and_parts (nat_le 1 value) (nat_le value most_number) range in
        let low : 1 ≤ value = grind (arith, nat_tests) in
        let high : value ≤ most_number = grind (arith, nat_tests) in
        let all = and_parts (nat_lt 0 (length digits)) (list_all is_ascii_digit digits) number in
        let some : 0 < length digits = grind (arith, nat_tests) in
        let other : get_or digits 0 0 ≡ 48 → length digits ≡ 1 = λ zero_first. absurd (let t : (get_or digits 0 0 == 48) ≡ true = grind (arith, nat_tests) in let no_more : true ≡ false = sym t ∙ first in cc) in
        subst (IsCounted digits) is (record { range = (low, high); spelt = decimal-digits_value digit_model digits all.1 some other (omega (arith, high)) })
    in_range false range number first e = absurd (let told : None ≡ Some n = e in cc)

    by_number : (t : Bool) → is_number digits ≡ t → (get_or digits 0 0 == 48) ≡ false
        → option_and_then (λ m. cond (nat_le 1 m && nat_le m most_number) (Some m) None) (cond t (Some value) None) ≡ Some n → IsCounted digits n
    by_number true number first e = in_range (nat_le 1 value && nat_le value most_number) refl number first e
    by_number false number first e = absurd (let told : None ≡ Some n = e in cc)

    by_first : (t : Bool) → (get_or digits 0 0 == 48) ≡ t
        → cond t None (option_and_then (λ m. cond (nat_le 1 m && nat_le m most_number) (Some m) None) (number_in digits)) ≡ Some n → IsCounted digits n
    by_first true first e = absurd (let told : None ≡ Some n = e in cc)
    by_first false first e = by_number (is_number digits) refl first e

-- ---- parting

-- no such byte
abbrev pub Lacks : ℕ → List ℕ → Type 0
Lacks byte bytes = list_all (λ b. not (is_byte byte b)) bytes ≡ true

place_after : (byte : ℕ) (front rest : List ℕ) → Lacks byte front → position_or_len (is_byte byte) (front ++ byte ∷ rest) ≡ length front
place_after byte [] rest lacks = let own : (byte == byte) ≡ true = grind (arith, nat_tests) in rw own refl
place_after byte (b ∷ front) rest lacks =
    let both = and_parts (not (b == byte)) (list_all (λ x. not (is_byte byte x)) front) lacks in
    let other : not (b == byte) ≡ true = both.0 in
    rw (other, place_after byte front rest both.1) (omega arith)

-- the first such byte parts a text
pub parted_by : (byte : ℕ) (front rest : List ℕ) → Lacks byte front
    → (before_first (is_byte byte) (front ++ byte ∷ rest) ≡ front) × (after_first (is_byte byte) (front ++ byte ∷ rest) ≡ rest)
parted_by byte front rest lacks =
    let place = place_after byte front rest lacks in (
      ap (λ n. take n (front ++ byte ∷ rest)) place ∙ take_at front (byte ∷ rest) (length front) refl,
      ap (λ n. drop (n + 1) (front ++ byte ∷ rest)) place
          ∙ ap (drop (length front + 1)) (sym (append_assoc front (byte ∷ []) rest))
          ∙ drop_at (front ++ byte ∷ []) rest (length front + 1) (length-append front (byte ∷ [])),
    )

parted_is : (byte : ℕ) (front rest : List ℕ) → Lacks byte front → parted byte (front ++ byte ∷ rest) ≡ Some (front, rest)
parted_is byte front rest lacks =
    let place = place_after byte front rest lacks in
    let parts = parted_by byte front rest lacks in
    let within : nat_lt (position_or_len (is_byte byte) (front ++ byte ∷ rest)) (length (front ++ byte ∷ rest)) ≡ true =
    let long = length-append front (byte ∷ rest) in grind (arith, nat_tests) in
    ap (λ t. cond t (Some (before_first (is_byte byte) (front ++ byte ∷ rest), after_first (is_byte byte) (front ++ byte ∷ rest))) None) within
    ∙ ap₂ (λ (a b : List ℕ). Some (a, b)) parts.0 parts.1

digits_lack_point : (digits : List ℕ) → list_all is_ascii_digit digits ≡ true → Lacks 46 digits
digits_lack_point [] all = refl
digits_lack_point (d ∷ digits) all =
    let both = and_parts (is_ascii_digit d) (list_all is_ascii_digit digits) all in
    let digit : is_ascii_digit d ≡ true = both.0 in
    let other : not (d == 46) ≡ true = grind (arith, nat_tests) in
    and_from _ _ other (digits_lack_point digits both.1)

-- ---- identifiers

-- the same with the point before the number
text_is : (numbers : Numbers) → identifier_text numbers ≡ decimal numbers.0 ++ 46 ∷ decimal numbers.1
text_is numbers = refl

named_if : (text : List ℕ) (numbers : Numbers) → Identifies text numbers → identifier_named text ≡ Some numbers
named_if text numbers is =
    let object = numbers.0 in
    let small : object < 2 ^ 64 = omega (arith, is.object.1) in
    let lacks = digits_lack_point (decimal object) (digits_decimal digit_model object small) in
    let parts = ap (parted 46) (is.spelt ∙ text_is numbers) ∙ parted_is 46 (decimal object) (decimal numbers.1) lacks in
    ap (option_and_then both_numbers) parts
    ∙ ap₂ option_zip (counting_decimal object is.object) (counting_decimal numbers.1 is.number)

both_counted : (before after : List ℕ) (numbers : Numbers) (o p : Option ℕ) → o ≡ counting_number before → p ≡ counting_number after
    → option_zip o p ≡ Some numbers → IsCounted before numbers.0 × IsCounted after numbers.1
both_counted before after numbers None p e f told = absurd (let no_more : None ≡ Some numbers = told in cc)
both_counted before after numbers (Some object) None e f told = absurd (let no_more : None ≡ Some numbers = told in cc)
both_counted before after numbers (Some object) (Some number) e f told =
    let pair : (object, number) ≡ numbers = cc in
    (counted before numbers.0 (sym e ∙ ap (λ (n : Numbers). Some n.0) pair), counted after numbers.1 (sym f ∙ ap (λ (n : Numbers). Some n.1) pair))

only_if : (text : List ℕ) (numbers : Numbers) → identifier_named text ≡ Some numbers → Identifies text numbers
only_if text numbers told = by_point (nat_lt (position_or_len (is_byte 46) text) (length text)) refl told
  where
    before : List ℕ
    before = before_first (is_byte 46) text

    after : List ℕ
    after = after_first (is_byte 46) text

    by_point : (t : Bool) → nat_lt (position_or_len (is_byte 46) text) (length text) ≡ t
        → option_and_then both_numbers (cond t (Some (before, after)) None) ≡ Some numbers → Identifies text numbers
    by_point true found told =
        let place : position_or_len (is_byte 46) text < length text = grind (arith, nat_tests) in
        let whole = split_at_first (is_byte 46) text 0 place in
        let point : get_or text (position_or_len (is_byte 46) text) 0 ≡ 46 = let e = passes_at_first (is_byte 46) text 0 place in grind (arith, nat_tests) in
        let both = both_counted before after numbers _ _ refl refl told in
        record {
          object = both.0.range;
          number = both.1.range;
          spelt = whole ∙ ap (λ b. before ++ b ∷ after) point ∙ ap₂ (λ (a b : List ℕ). a ++ 46 ∷ b) (sym both.0.spelt) (sym both.1.spelt) ∙ sym (text_is numbers);
        }
    by_point false found told = absurd (let no_more : None ≡ Some numbers = told in cc)

pub reading_is_identifying : ReadsWhatIsIdentified
reading_is_identifying text numbers = (only_if text numbers, named_if text numbers)
