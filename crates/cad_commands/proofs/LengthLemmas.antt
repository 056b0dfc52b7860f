-- How long the texts of values are.
use Rattle.std.proofs.Common.{ℕ, suc, ◌+◌, ◌*◌, ◌^◌, ◌<◌, ◌≤◌, ◌/◌, ◌%◌, negsuc, Bool, true, false, cond, nat_lt, List, [], ◌∷◌, ◌++◌, length, length-append, arith}
use Rattle.std.specs.Fmt.{signed_decimal}
use Rattle.std.specs.Prelude.{decimal}
use Rattle.std.specs.Char.{digit_char}
use Rattle.std.proofs.lemmas.Fmt.{length-decimal-le}
use Rattle.json.specs.Print.{escape_letter, escape_byte, escape, quoted}
use Rattle.serde_json.specs.Data.{Data, null, boolean, number, string, array, object, Items, no_items, item, Members, no_members, member}
use Rattle.serde_json.specs.Written.{comma_if}

-- a bound on the bytes of a value: each number may have 20, and each byte of a text be written as six
abbrev mutual
  pub weight : Data → ℕ
  weight null = 4
  weight (boolean b) = 5
  weight (number n) = 20
  weight (string s) = 2 + 6 * length s
  weight (array ds) = 1 + items_weight ds
  weight (object ms) = 1 + members_weight ms

  pub items_weight : Items → ℕ
  items_weight no_items = 1
  items_weight (item d ds) = 1 + (weight d + items_weight ds)

  pub members_weight : Members → ℕ
  members_weight no_members = 1
  members_weight (member k d ms) = 1 + (2 + 6 * length k + (1 + (weight d + members_weight ms)))

pub joined_length : (xs ys : List ℕ) (m n : ℕ) → length xs ≤ m → length ys ≤ n → length (xs ++ ys) ≤ m + n
joined_length xs ys m n h k = omega (arith, length-append xs ys, h, k)

-- ---- texts

escaped : (letter x : ℕ) (s t : Bool) → length (cond s (92 ∷ letter ∷ []) (cond t (92 ∷ 117 ∷ 48 ∷ 48 ∷ digit_char (x / 16) ∷ digit_char (x % 16) ∷ []) (x ∷ []))) ≤ 6
escaped letter x true t = omega arith
escaped letter x false true = omega arith
escaped letter x false false = omega arith

byte_length : (x : ℕ) → length (escape_byte x) ≤ 6
unfolding escape_byte
byte_length x = escaped (escape_letter x) x (nat_lt 0 (escape_letter x)) (nat_lt x 32)

escape_length : (s : List ℕ) → length (escape s) ≤ 6 * length s
escape_length [] = omega arith
escape_length (x ∷ s) = omega (arith, joined_length (escape_byte x) (escape s) 6 (6 * length s) (byte_length x) (escape_length s))

pub quoted_length : (s : List ℕ) → length (quoted s) ≤ 2 + 6 * length s
quoted_length s = omega (arith, joined_length (escape s) (34 ∷ []) (6 * length s) 1 (escape_length s) (omega arith))

pub comma_length : (later : Bool) → length (comma_if later) ≤ 1
comma_length true = omega arith
comma_length false = omega arith

-- ---- numbers

pub decimal_length : (n : ℕ) → n < 2 ^ 64 → length (decimal n) ≤ 20
decimal_length n h = length-decimal-le 20 n (omega arith) (omega (arith, h)) h

pub negative_length : (n : ℕ) → n < 2 ^ 63 → length (signed_decimal (negsuc n)) ≤ 20
negative_length n h =
    let digits : length (decimal (suc n)) ≤ 19 = length-decimal-le 19 (suc n) (omega arith) (omega (arith, h)) (omega (arith, h)) in
    omega (arith, digits)
