-- Ranks written one after the other.
use Rattle.std.proofs.Common.{◌≡◌, ◌≢◌, ◌∙◌, ℕ, ◌+◌, ◌<◌, ◌≤◌, List, length, get_or, set, sym, refl, arith, ◌⊎◌, inl, inr, get_or-set_other, get_or-set_same}
use Rattle.std.proofs.lemmas.List.{length-set}
use Rattle.std.proofs.lemmas.Cmp.{by_ranked, ranked}
use Rattle.std.specs.Ordering.{nat_cmp}
use Rattle.cad_positions.specs.Hits.{hits, hits_two}

-- the first places are ranked
pub record AreRanked (places ranks : List ℕ) (count i : ℕ) : Type 0 where
  pub counted : length ranks ≡ count
  pub ranked : (r : ℕ) → r < i → get_or ranks (get_or places r 0) 0 ≡ r
  pub stands : (p : ℕ) → p < count → get_or ranks p 0 < length places → get_or places (get_or ranks p 0) 0 ≡ p

pub apart_at : (places : List ℕ) → ((v : ℕ) → hits v places ≤ 1) → (i j : ℕ) → i < j → j < length places → get_or places i 0 ≢ get_or places j 0
apart_at places once_each i j h k = λ e. absurd (omega (arith, once_each (get_or places i 0), hits_two places i j h k e))

same_or : (m n : ℕ) → (m ≡ n) ⊎ (m ≢ n)
same_or m n = by_ranked (m < n) (m ≡ n) (n < m) (nat_cmp m n) (ranked m n (nat_cmp m n) refl) (λ e h. inr (λ k. absurd (omega arith))) (λ e h. inl h) (λ e h. inr (λ k. absurd (omega arith)))

pub ranked_more : (places ranks : List ℕ) (count i q : ℕ) → ((v : ℕ) → hits v places ≤ 1) → i < length places → q ≡ get_or places i 0 → q < count → AreRanked places ranks count i → AreRanked places (set ranks q i) count (i + 1)
ranked_more places ranks count i q once_each h at known a = record {
  counted = length-set ranks q i ∙ a.counted;
  ranked = λ r k. elim (same_or r i) [
    | inl e ↦ let l : q < length ranks = omega (arith, a.counted) in rw (e, ← at, get_or-set_same ranks q i 0 l) refl
    | inr d ↦
        let ne : get_or places r 0 ≢ q = λ e. apart_at places once_each r i (omega arith) h (e ∙ at) in
        get_or-set_other ranks q (get_or places r 0) i 0 ne ∙ a.ranked r (omega arith)
  ];
  stands = λ p k l. elim (same_or p q) [
    | inl e ↦ let m : q < length ranks = omega (arith, a.counted) in rw (e, get_or-set_same ranks q i 0 m) (sym at)
    | inr d ↦ let f = get_or-set_other ranks q p i 0 d in rw f (a.stands p k (rw f at l))
  ];
}
