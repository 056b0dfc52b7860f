-- Positions of which none passes a test, and those of a stretch on which two tests agree.
use Rattle.std.proofs.Common.{◌≡◌, ℕ, zero, suc, ◌+◌, ◌≤◌, ◌<◌, Bool, false, List, [], ◌∷◌, filter, refl, arith}
use Rattle.std.specs.List.{range_with_len}

pub none_kept : (test : ℕ → Bool) (ks : List ℕ) → ((k : ℕ) → test k ≡ false) → filter test ks ≡ []
none_kept test [] h = refl
none_kept test (k ∷ ks) h = rw (h k) (none_kept test ks h)

pub same_from : (p q : ℕ → Bool) (from n : ℕ) → ((k : ℕ) → from ≤ k → k < from + n → p k ≡ q k) → filter p (range_with_len from n) ≡ filter q (range_with_len from n)
same_from p q from zero h = refl
same_from p q from (suc n) h = rw (h from (omega arith) (omega arith), same_from p q (from + 1) n (λ k low high. h k (omega arith) (omega arith))) refl
