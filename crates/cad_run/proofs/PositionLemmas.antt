-- Positions of the features that pass.
use Rattle.std.proofs.Common.{◌≡◌, ◌∙◌, ℕ, zero, suc, ◌+◌, ◌<◌, Bool, true, false, cond, ◌&&◌, ◌||◌, ◌==◌, List, ◌∷◌, length, filter, map, get_or, ap, sym, arith, slice_get, Some, ⊎_elim, nat_lt, lt-ltb, le-ltb}
use Rattle.std.specs.Prelude.{nat_le, slice_index}
use Rattle.std.specs.List.{range_with_len}
use Rattle.std.specs.List.Sorted.{IsStrictlyIncreasing}
use Rattle.std.proofs.lemmas.Bool.Decides.{nat_tests}
use Rattle.std.proofs.lemmas.List.{length-map, get_or-map}
use Rattle.std.proofs.lemmas.List.Kept.{IsStrictlyIncreasing-filter}
use Rattle.std.proofs.lemmas.Option.{slice_get_cases}
use Rattle.cad_feature.specs.Features.{Item}
use Rattle.cad_positions.specs.Between.{range_increases}
use Rattle.cad_positions.specs.Rankings.{is_between, positions_between}
use Rattle.cad_positions.specs.Held.{is_among, has_rank}
use Rattle.cad_run.specs.Positions.{holds_for, holds_at}

-- ---- the numbers that pass a test, as a list

here_or_later : (b hk rest : Bool) (from n k : ℕ) → (from ≡ k → b ≡ hk) → rest ≡ ((nat_le (from + 1) k && nat_lt k ((from + 1) + n)) && hk) → (((from == k) && b) || rest) ≡ ((nat_le from k && nat_lt k (from + suc n)) && hk)
here_or_later b hk rest from n k same e = grind (arith, nat_tests)

one_among : (b : Bool) (from k : ℕ) (rows : List ℕ) → is_among (cond b (from ∷ rows) rows) k ≡ (((from == k) && b) || is_among rows k)
one_among true from k rows = grind arith
one_among false from k rows = grind arith

none_there : (hk : Bool) (from k : ℕ) → false ≡ ((nat_le from k && nat_lt k (from + 0)) && hk)
none_there hk from k = grind (arith, nat_tests)

among_from : (h : ℕ → Bool) (from n k : ℕ) → is_among (filter h (range_with_len from n)) k ≡ ((nat_le from k && nat_lt k (from + n)) && h k)
among_from h from zero k = none_there (h k) from k
among_from h from (suc n) k =
    one_among (h from) from k (filter h (range_with_len (from + 1) n)) ∙ here_or_later (h from) (h k) _ from n k (λ e. ap h e) (among_from h (from + 1) n k)

below : (b : Bool) (k n : ℕ) → ((nat_le 0 k && nat_lt k (0 + n)) && b) ≡ (nat_lt k n && b)
below b k n = grind (arith, nat_tests)

pub among_below : (h : ℕ → Bool) (n k : ℕ) → is_among (filter h (range_with_len 0 n)) k ≡ (nat_lt k n && h k)
among_below h n k = among_from h 0 n k ∙ below (h k) k n

pub below_rises : (h : ℕ → Bool) (n : ℕ) → IsStrictlyIncreasing (filter h (range_with_len 0 n))
below_rises h n = IsStrictlyIncreasing-filter h (range_with_len 0 n) (range_increases 0 n)

-- ---- ranks

pub ranks_among : (ranks : List ℕ) (from to end k : ℕ) → end ≡ length ranks → has_rank end ranks from to k ≡ is_among (positions_between ranks from to) k
unfolding positions_between
ranks_among ranks from to end k e =
    ap (λ n. nat_lt k n && is_between from to (slice_index ranks k)) e ∙ sym (among_below (λ p. is_between from to (slice_index ranks p)) (length ranks) k)

-- ---- values by position

module _ {A : Type 0} (f : Item → A) (none : A) (test : A → Bool) (xs : List Item) (k : ℕ) where
  at_feature : (nat_lt k (length (map f xs)) && test (get_or (map f xs) k none)) ≡ holds_at (λ x. test (f x)) xs k
  at_feature = ap (λ n. nat_lt k n && test (get_or (map f xs) k none)) (length-map xs f) ∙ ⊎_elim
      (λ (found : (x : Item) × (k < length xs) × (slice_get xs k ≡ Some x) × (get_or xs k x ≡ x)).
      ap (λ b. b && test (get_or (map f xs) k none)) (lt-ltb k (length xs) found.1)
      ∙ ap test (get_or-map f xs k found.0 none found.1 ∙ ap f found.3)
      ∙ sym (ap (holds_for (λ x. test (f x))) found.2))
      (λ past. ap (λ b. b && test (get_or (map f xs) k none)) (le-ltb k (length xs) past.0) ∙ sym (ap (holds_for (λ x. test (f x))) past.1))
      (slice_get_cases xs k).1

  pub among_features : is_among (filter (λ p. test (get_or (map f xs) p none)) (range_with_len 0 (length (map f xs)))) k ≡ holds_at (λ x. test (f x)) xs k
  among_features = among_below (λ p. test (get_or (map f xs) p none)) (length (map f xs)) k ∙ at_feature
