-- A walk with a place to come back to.
use Rattle.std.proofs.Common.{◌≡◌, ℕ, zero, suc, ◌+◌, Bool, true, false, ◌||◌, List, [], ◌∷◌, ◌++◌, drop, length, sym, refl, add-zero, add-suc}
use Rattle.std.proofs.Math.Seq.{drop-append-add}
use Rattle.std.specs.Cmp.{second_so}
use Rattle.std.proofs.lemmas.Bool.{or_right}
use Rattle.cql_text.specs.Patterns.{Piece, any, one, exactly, is_like, some_end}

-- no part for any number
abbrev pub IsPlain : List Piece → Type 0
IsPlain [] = Unit {0}
IsPlain (any ∷ p) = ⊥
IsPlain (one ∷ p) = IsPlain p
IsPlain (exactly c ∷ p) = IsPlain p

-- what some end of an end has, some end has
pub some_drop : (test : List ℕ → Bool) (k : ℕ) (text : List ℕ) → some_end test (drop k text) ≡ true → some_end test text ≡ true
some_drop test zero text h = h
some_drop test (suc k) [] h = h
some_drop test (suc k) (c ∷ text) h = or_right (test (c ∷ text)) (some_end test text) (some_drop test k text h)

-- plain parts take one character each
pub plain_then : (m q : List Piece) (text : List ℕ) → IsPlain m → is_like (m ++ q) text ≡ true → is_like q (drop (length m) text) ≡ true
plain_then [] q text plain h = h
plain_then (any ∷ m) q text plain h = absurd plain
plain_then (one ∷ m) q [] plain h = cc
plain_then (one ∷ m) q (c ∷ text) plain h = plain_then m q text plain (second_so true (is_like (m ++ q) text) h)
plain_then (exactly d ∷ m) q [] plain h = cc
plain_then (exactly d ∷ m) q (c ∷ text) plain h = plain_then m q text plain (second_so _ (is_like (m ++ q) text) h)

-- an end for which a test holds
pub end_of : (test : List ℕ → Bool) (text : List ℕ) → some_end test text ≡ true → (k : ℕ) × (test (drop k text) ≡ true)
end_of test [] h = (0, h)
end_of test (c ∷ text) h = elim (test (c ∷ text)) as (λ b. test (c ∷ text) ≡ b → (b || some_end test text) ≡ true → (k : ℕ) × (test (drop k (c ∷ text)) ≡ true)) [
  | true ↦ λ e g. (0, e)
  | false ↦ λ e g. let r = end_of test text g in (suc r.0, r.1)
] refl h

drop_none : {X : Type 0} (k : ℕ) → drop k (let xs : List X = [] in xs) ≡ []
drop_none zero = refl
drop_none (suc k) = refl

drop_twice : {X : Type 0} (j k : ℕ) (xs : List X) → drop j (drop k xs) ≡ drop (j + k) xs
drop_twice j zero xs = rw add-zero refl
drop_twice j (suc k) [] = rw (drop_none j, drop_none (j + suc k)) refl
drop_twice j (suc k) (x ∷ xs) = rw add-suc (drop_twice j k xs)

drop_front : (u r : List ℕ) (k j : ℕ) → j ≡ length u → drop j (drop k (u ++ r)) ≡ drop k r
drop_front u r k j e = rw (e, drop_twice (length u) k (u ++ r), drop-append-add u r k) refl

-- the heart: an older place to come back to says no more than the newest one
pub absorbed : (m p : List Piece) (u r : List ℕ) → IsPlain m → length u ≡ length m → some_end (is_like (m ++ any ∷ p)) (u ++ r) ≡ true → some_end (is_like p) r ≡ true
absorbed m p u r plain same h =
    let found = end_of (is_like (m ++ any ∷ p)) (u ++ r) h in
    let rest : is_like (any ∷ p) (drop (length m) (drop found.0 (u ++ r))) ≡ true = plain_then m (any ∷ p) (drop found.0 (u ++ r)) plain found.1 in
    some_drop (is_like p) found.0 r (rw (drop_front u r found.0 (length m) (sym same)) at rest)
