-- Identifiers, cut at their full stop.
use Rattle.std.proofs.Common.{◌≡◌, ℕ, ◌+◌, ◌%◌, ◌<◌, ◌^◌, List, [], ◌∷◌, ◌++◌, Bool, false, ◌==◌, decimal, ℤ, pos, refl, sym, ◌∙◌, arith}
use Rattle.std.specs.List.{list_any}
use Rattle.std.proofs.lemmas.Bool.{eqb-false, or_parts, or_from}
use Rattle.std.proofs.lemmas.Bool.Decides.{nat_tests}
use Rattle.std.proofs.lemmas.List.Folds.{list_any-append}
use Rattle.std.proofs.lemmas.Fmt.{decimal_by_steps, decimal_injective}
use Rattle.cad_versions.specs.Objects.{object_number}
use Rattle.cad_versions.specs.Identifiers.{identifier_text}
use Rattle.cad_feature.specs.Features.{Item, IsNumbered, identifier_of, numbers_of}

-- a full stop
abbrev is_stop : ℕ → Bool
is_stop c = c == 46

stop_is : (c : ℕ) → c ≡ 46 → is_stop c ≡ false → ⊥
stop_is c same other = eqb-false c 46 other same

digit_no_stop : (n : ℕ) → is_stop (48 + n) ≡ false
digit_no_stop n = grind (arith, nat_tests)

-- a number's digits have no full stop
decimal_no_stop : (n : ℕ) → n < 2 ^ 64 → list_any is_stop (decimal n) ≡ false
decimal_no_stop n small =
    let P : ℕ → List ℕ → Type 0 = λ m ds. list_any is_stop ds ≡ false in
    decimal_by_steps P (λ m h. rw (digit_no_stop m) refl) (λ m ds h none. list_any-append is_stop ds ((48 + m % 10) ∷ []) ∙ or_from (list_any is_stop ds) _ none (rw (digit_no_stop (m % 10)) refl)) n small

-- texts that are equal are cut alike at their first full stop
cut_alike : (xs ys us vs : List ℕ) → list_any is_stop xs ≡ false → list_any is_stop us ≡ false → xs ++ 46 ∷ ys ≡ us ++ 46 ∷ vs → (xs ≡ us) × (ys ≡ vs)
cut_alike [] ys [] vs a b same = (refl, cc)
cut_alike [] ys (u ∷ us) vs a b same =
    let stop : u ≡ 46 = cc in
    let first = (or_parts (is_stop u) _ b).0 in
    absurd (stop_is u stop first)
cut_alike (x ∷ xs) ys [] vs a b same =
    let stop : x ≡ 46 = cc in
    let first = (or_parts (is_stop x) _ a).0 in
    absurd (stop_is x stop first)
cut_alike (x ∷ xs) ys (u ∷ us) vs a b same =
    let head : x ≡ u = cc in
    let tail : xs ++ 46 ∷ ys ≡ us ++ 46 ∷ vs = cc in
    let rest = cut_alike xs ys us vs (or_parts (is_stop x) _ a).1 (or_parts (is_stop u) _ b).1 tail in
    (rw (head, rest.0) refl, rest.1)

-- the full stop and what follows it, as one text
text_is : (x : Item) → identifier_text (numbers_of x) ≡ decimal (object_number x.object) ++ 46 ∷ decimal x.number
text_is x = refl

same_pair : (a b c d : ℕ) → a ≡ c → b ≡ d → ◌≡◌ {A = ℤ × ℤ} (pos a, pos b) (pos c, pos d)
same_pair a b c d e f = rw (e, f) refl

-- identifiers that are written alike are one
pub identifier_unique : (x y : Item) → IsNumbered x → IsNumbered y → identifier_text (numbers_of x) ≡ identifier_text (numbers_of y) → identifier_of x ≡ identifier_of y
identifier_unique x y xs ys same =
    let a : object_number x.object < 2 ^ 64 = omega (arith, x.object.small) in
    let b : x.number < 2 ^ 64 = omega (arith, xs.1) in
    let m : object_number y.object < 2 ^ 64 = omega (arith, y.object.small) in
    let n : y.number < 2 ^ 64 = omega (arith, ys.1) in
    let equal = sym (text_is x) ∙ same ∙ text_is y in
    let parts = cut_alike (decimal (object_number x.object)) (decimal x.number) (decimal (object_number y.object)) (decimal y.number) (decimal_no_stop (object_number x.object) a) (decimal_no_stop (object_number y.object) m) equal in
    same_pair (object_number x.object) x.number (object_number y.object) y.number (decimal_injective (object_number x.object) (object_number y.object) a m parts.0) (decimal_injective x.number y.number b n parts.1)
