-- Positions that pass a test: the first of them, and the rest.
use Rattle.std.proofs.Common.{◌≡◌, ◌∙◌, ℕ, zero, suc, ◌+◌, ◌^◌, ◌<◌, ◌≤◌, Bool, true, false, ◌&&◌, List, [], ◌∷◌, cond, Some, None, ap, sym, refl, arith}
use Rattle.std.specs.Prelude.{filter, nat_le}
use Rattle.std.specs.List.{range_with_len}
use Rattle.std.proofs.lemmas.Bool.Decides.{nat_tests}
use Rattle.cad_positions.specs.Left.{IsFront, Settles}
use Rattle.cad_positions.specs.AllRows.{most, most_is, rows_of}
use Rattle.cad_positions.specs.lemmas.PositionSetLemmas.{none_kept, same_from}

same_step : (a b t : Bool) (x : ℕ) (ys zs : List ℕ) (f : List ℕ → List ℕ) → a ≡ (b && t) → ys ≡ f zs → f (x ∷ zs) ≡ cond t (x ∷ f zs) (f zs) → cond a (x ∷ ys) ys ≡ f (cond b (x ∷ zs) zs)
same_step a true true x ys zs f h e g = rw (h, e) (sym g)
same_step a true false x ys zs f h e g = rw (h, e) (sym g)
same_step a false t x ys zs f h e g = rw (h, e) refl

-- those that pass both tests
pub rows_both : (test old t : ℕ → Bool) (xs : List ℕ) → ((k : ℕ) → test k ≡ (old k && t k)) → filter test xs ≡ filter t (filter old xs)
rows_both test old t [] h = refl
rows_both test old t (x ∷ xs) h = same_step (test x) (old x) (t x) x _ _ (filter t) (h x) (rows_both test old t xs h) refl

-- ---- the first that passes

true_at : (a b : Bool) (x : ℕ) (ys zs : List ℕ) → a ≡ true → b ≡ false → ys ≡ zs → cond a (x ∷ ys) ys ≡ x ∷ cond b (x ∷ zs) zs
true_at a b x ys zs h k e = rw (h, k, e) refl

false_at : (a b : Bool) (m x : ℕ) (ys zs : List ℕ) → a ≡ false → b ≡ false → ys ≡ m ∷ zs → cond a (x ∷ ys) ys ≡ m ∷ cond b (x ∷ zs) zs
false_at a b m x ys zs h k e = rw (h, k, e) refl

first_out : (a b t : Bool) → b ≡ (a && t) → a ≡ false → b ≡ false
first_out a b t e h = grind arith

second_out : (a b : Bool) (m k : ℕ) → b ≡ (a && nat_le (suc m) k) → k ≤ m → b ≡ false
second_out a b m k e h = let t : nat_le (suc m) k ≡ false = grind (arith, nat_tests) in grind arith

stays : (a b : Bool) (m k : ℕ) → b ≡ (a && nat_le (suc m) k) → suc m ≤ k → a ≡ b
stays a b m k e h = let t : nat_le (suc m) k ≡ true = grind (arith, nat_tests) in grind arith

taken : (old next : ℕ → Bool) (m from n j : ℕ) → m ≡ from + j → j < n → old m ≡ true → ((k : ℕ) → k < m → old k ≡ false) → ((k : ℕ) → k < from + n → next k ≡ (old k && nat_le (suc m) k)) → filter old (range_with_len from n) ≡ m ∷ filter next (range_with_len from n)
taken old next m from zero j e h here low rest = absurd (omega arith)
taken old next m from (suc n) zero e h here low rest =
    let at : from ≡ m = omega arith in
    rw at (true_at (old m) (next m) m _ _ here (second_out (old m) (next m) m m (rest m (omega arith)) (omega arith))
    (same_from old next (m + 1) n (λ k up high. stays (old k) (next k) m k (rest k (omega arith)) (omega arith))))
taken old next m from (suc n) (suc j) e h here low rest =
    let out = low from (omega arith) in
    false_at (old from) (next from) m from _ _ out (first_out (old from) (next from) _ (rest from (omega arith)) out)
    (taken old next m (from + 1) n j (omega arith) (omega arith) here low (λ k high. rest k (omega arith)))

pub rows_taken : (old next : ℕ → Bool) (m : ℕ) → m < most → IsFront old (Some m) → ((k : ℕ) → k < most → next k ≡ (old k && nat_le (suc m) k)) → rows_of old ≡ m ∷ rows_of next
rows_taken old next m h front rest = taken old next m 0 most m (omega arith) h front.0 front.1 (λ k high. rest k (omega arith))

-- ---- what is left from a position on

abbrev from_on : (ℕ → Bool) → ℕ → ℕ → Bool
from_on has from k = has k && nat_le from k

pub sought_on : (has : ℕ → Bool) (from to k : ℕ) → from < to → from_on has to k ≡ (from_on has from k && nat_le to k)
sought_on has from to k h = cut (has k) (nat_le from k) (nat_le to k) (λ e. grind (arith, nat_tests))
  where
    cut : (a b c : Bool) → (c ≡ true → b ≡ true) → (a && c) ≡ ((a && b) && c)
    cut a b c h = grind arith

pub sought_back : (has : ℕ → Bool) (from to k : ℕ) → to ≤ from → from_on has from k ≡ (from_on has from k && nat_le to k)
sought_back has from to k h = cut (has k) (nat_le from k) (nat_le to k) (λ e. grind (arith, nat_tests))
  where
    cut : (a b c : Bool) → (b ≡ true → c ≡ true) → (a && b) ≡ ((a && b) && c)
    cut a b c h = grind arith

pub next_none : (old new : ℕ → Bool) (from : ℕ) → Settles old new from None → (rows_of (from_on old from) ≡ []) × (rows_of (from_on new from) ≡ [])
next_none old new from s =
    (none_kept (from_on old from) (range_with_len 0 most) (λ k. sym (s.kept k) ∙ s.front k), none_kept (from_on new from) (range_with_len 0 most) (λ k. ap (λ b. b && nat_le from k) (s.front k)))

front_from : (old new : ℕ → Bool) (from m : ℕ) → Settles old new from (Some m) → IsFront (from_on old from) (Some m)
front_from old new from m s = (sym (s.kept m) ∙ s.front.0, λ k low. sym (s.kept k) ∙ s.front.1 k low)

pub next_some : (old new : ℕ → Bool) (from m : ℕ) → m < 2 ^ 32 → Settles old new from (Some m) → rows_of (from_on old from) ≡ m ∷ rows_of (from_on new (m + 1))
next_some old new from m h s = rows_taken (from_on old from) (from_on new (m + 1)) m (rw most_is h) (front_from old new from m s)
    (λ k high. ap (λ b. b && nat_le (m + 1) k) (s.kept k) ∙ ap (λ n. (old k && nat_le from k) && nat_le n k) (let e : m + 1 ≡ suc m = omega arith in e))

past : (a : Bool) (m k : ℕ) → k ≤ m → (a && nat_le (suc m) k) ≡ false
past a m k h = let t : nat_le (suc m) k ≡ false = grind (arith, nat_tests) in grind arith

pub next_last : (old new none : ℕ → Bool) (from other m : ℕ) → m < 2 ^ 32 → 2 ^ 32 ≤ m + 1 → Settles old new from (Some m) → ((k : ℕ) → none k ≡ false) → rows_of (from_on old from) ≡ m ∷ rows_of (from_on none other)
next_last old new none from other m h top s empty = rows_taken (from_on old from) (from_on none other) m (rw most_is h) (front_from old new from m s)
    (λ k high. ap (λ b. b && nat_le other k) (empty k) ∙ sym (past (from_on old from k) m k (let under : k < 2 ^ 32 = rw (← most_is) high in omega arith)))
