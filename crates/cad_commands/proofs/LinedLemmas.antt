-- No line ends in what is written.
use Rattle.std.proofs.Common.{◌≡◌, ℕ, zero, suc, ◌+◌, ◌<◌, ◌≤◌, ◌^◌, ◌%◌, ◌==◌, negsuc, Bool, true, false, not, ◌&&◌, List, [], ◌∷◌, ◌++◌, inl, inr, refl, ap, ◌∙◌, arith}
use Rattle.std.specs.Fmt.{signed_decimal}
use Rattle.std.specs.Prelude.{decimal}
use Rattle.std.proofs.lemmas.Bool.{and_parts, cases_lt, cases_eq}
use Rattle.std.proofs.lemmas.Bool.Decides.{nat_tests}
use Rattle.std.proofs.lemmas.Fmt.{decimal_by_steps}
use Rattle.json.specs.Print.{escape_byte, escape, quoted}
use Rattle.json.proofs.Printed.Strings.{escape_byte_plain}
use Rattle.cad_commands.specs.Writing.{is_one_line}

pub lined_append : (xs ys : List ℕ) → is_one_line xs ≡ true → is_one_line ys ≡ true → is_one_line (xs ++ ys) ≡ true
lined_append [] ys h k = k
lined_append (x ∷ xs) ys h k = let p = and_parts (not (x == 10)) (is_one_line xs) h in ap (λ t. t && is_one_line (xs ++ ys)) p.0 ∙ lined_append xs ys p.1 k

-- ---- texts

abbrev lined_below : ℕ → Bool
lined_below zero = true
lined_below (suc n) = is_one_line (escape_byte n) && lined_below n

below : (n : ℕ) → lined_below n ≡ true → (x : ℕ) → x < n → is_one_line (escape_byte x) ≡ true
below zero e x h = absurd (omega arith)
below (suc n) e x h =
    let p = and_parts (is_one_line (escape_byte n)) (lined_below n) e in
    elim (cases_eq x n) [ inl same ↦ rw same p.0 | inr other ↦ below n p.1 x (omega arith) ]

all_lined : lined_below 128 ≡ true
unfolding escape_byte
all_lined = refl

other_byte : (x : ℕ) → 128 ≤ x → (x == 10) ≡ false
other_byte x h = grind (arith, nat_tests)

one_byte : (x : ℕ) → is_one_line (escape_byte x) ≡ true
one_byte x = elim (cases_lt x 128) [
  | inl small ↦ below 128 all_lined x small
  | inr big ↦ rw (escape_byte_plain x (λ e. omega arith) (λ e. omega arith) (omega arith)) (ap (λ t. not t && true) (other_byte x big))
]

escape_lined : (s : List ℕ) → is_one_line (escape s) ≡ true
escape_lined [] = refl
escape_lined (x ∷ s) = lined_append (escape_byte x) (escape s) (one_byte x) (escape_lined s)

pub quoted_lined : (s : List ℕ) → is_one_line (quoted s) ≡ true
quoted_lined s = lined_append (escape s) (34 ∷ []) (escape_lined s) refl

-- ---- numbers

digit : (n : ℕ) → is_one_line ((48 + n) ∷ []) ≡ true
digit n = ap (λ t. not t && true) other
  where
    other : (48 + n == 10) ≡ false
    other = grind (arith, nat_tests)

pub decimal_lined : (n : ℕ) → n < 2 ^ 64 → is_one_line (decimal n) ≡ true
decimal_lined n h = decimal_by_steps (λ m ds. is_one_line ds ≡ true) (λ m low. digit m) (λ m ds high so_far. lined_append ds ((48 + m % 10) ∷ []) so_far (digit (m % 10))) n h

pub negative_lined : (n : ℕ) → n < 2 ^ 63 → is_one_line (signed_decimal (negsuc n)) ≡ true
negative_lined n h = decimal_lined (suc n) (omega (arith, h))
