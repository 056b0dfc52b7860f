-- The count of open parentheses, and runs of tokens.
use Rattle.std.proofs.Common.{◌≡◌, ℕ, Bool, true, false, if◌then◌else◌, ◌+◌, ◌-◌, ◌≤◌, ◌==◌, List, [], ◌∷◌, ◌++◌, Option, Some, None, refl, ap, subst, arith}
use Rattle.std.proofs.lemmas.Bool.Decides.{nat_tests}
use Rattle.cql_lexer.specs.Mark.{Mark, at, opening, closing}
use Rattle.cql_parser.specs.Faults.{deep_at, openings, closings, IsShallow}

else_none : (b : Bool) (p : ℕ) (o : Option ℕ) → (if b then Some p else o) ≡ None → (b ≡ false) × (o ≡ None)
else_none true p o h = cc
else_none false p o h = (refl, h)

none_else : (b : Bool) (p : ℕ) (o : Option ℕ) → b ≡ false → o ≡ None → (if b then Some p else o) ≡ None
none_else true p o e h = cc
none_else false p o e h = h

below_most : (n : ℕ) → (n == 64) ≡ false → n ≤ 64 → n + 1 ≤ 64
below_most n e few = grind (arith, nat_tests)

not_most : (n : ℕ) → n + 1 ≤ 64 → (n == 64) ≡ false
not_most n few = grind (arith, nat_tests)

-- below the limit, an opening parenthesis counts one up
opens : (n p : ℕ) (xs : List Mark) → deep_at n (at p opening ∷ xs) ≡ None → n ≤ 64 →
    (n + 1 ≤ 64) × (deep_at (n + 1) xs ≡ None)
opens n p xs h few = let e = else_none (n == 64) p (deep_at (n + 1) xs) h in (below_most n e.0 few, e.1)

-- tokens from the first on
front : (n : ℕ) (part after : List Mark) → deep_at n (part ++ after) ≡ None → n ≤ 64 →
    n + openings part ≤ closings part + 64
front n [] after h few = omega arith
front n (at p opening ∷ part) after h few =
    let o = opens n p (part ++ after) h few in
    omega (arith, front (n + 1) part after o.1 o.0)
front n (at p closing ∷ part) after h few = omega (arith, front (n - 1) part after h (omega arith))
front n (at p s ∷ part) after h few = front n part after h few

-- tokens from anywhere on
within : (n : ℕ) (before part after : List Mark) → deep_at n (before ++ (part ++ after)) ≡ None → n ≤ 64 →
    openings part ≤ closings part + 64
within n [] part after h few = omega (arith, front n part after h few)
within n (at p opening ∷ before) part after h few =
    let o = opens n p (before ++ (part ++ after)) h few in
    within (n + 1) before part after o.1 o.0
within n (at p closing ∷ before) part after h few = within (n - 1) before part after h (omega arith)
within n (at p s ∷ before) part after h few = within n before part after h few

pub shallow : (tokens : List Mark) → deep_at 0 tokens ≡ None → IsShallow tokens
shallow tokens h = λ before part after e.
    within 0 before part after (subst (λ (xs : List Mark). deep_at 0 xs ≡ None) e h) (omega arith)

-- the same token before the same tokens
behind : (x : Mark) {xs ys : List Mark} → xs ≡ ys → x ∷ xs ≡ x ∷ ys
behind x e = ap (λ zs. x ∷ zs) e

-- with n open before, the tokens from the first on open few
abbrev IsFew : ℕ → List Mark → Type 0
IsFew n xs = (part after : List Mark) → xs ≡ part ++ after → n + openings part ≤ closings part + 64

none_from : (n : ℕ) (xs : List Mark) → n ≤ 64 → IsFew n xs → IsShallow xs → deep_at n xs ≡ None
none_from n [] few f s = refl
none_from n (at p opening ∷ xs) few f s =
    let below : n + 1 ≤ 64 = omega (arith, f (at p opening ∷ []) xs refl) in
    none_else (n == 64) p (deep_at (n + 1) xs) (not_most n below) (none_from (n + 1) xs below
    (λ part after e. omega (arith, f (at p opening ∷ part) after (behind (at p opening) e)))
    (λ before part after e. s (at p opening ∷ before) part after (behind (at p opening) e)))
none_from n (at p closing ∷ xs) few f s =
    none_from (n - 1) xs (omega arith)
    (λ part after e. omega (
      arith,
      f (at p closing ∷ part) after (behind (at p closing) e),
      s (at p closing ∷ []) part after (behind (at p closing) e),
    ))
    (λ before part after e. s (at p closing ∷ before) part after (behind (at p closing) e))
none_from n (at p k ∷ xs) few f s =
    none_from n xs few
    (λ part after e. f (at p k ∷ part) after (behind (at p k) e))
    (λ before part after e. s (at p k ∷ before) part after (behind (at p k) e))

pub deep_none : (tokens : List Mark) → IsShallow tokens → deep_at 0 tokens ≡ None
deep_none tokens s = none_from 0 tokens (omega arith) (λ part after e. omega (arith, s [] part after e)) s
