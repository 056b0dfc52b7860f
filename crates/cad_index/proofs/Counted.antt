-- Positions that pass a test, and the features at them.
use Rattle.std.proofs.Common.{◌≡◌, ◌∙◌, ℕ, suc, ◌+◌, ◌<◌, Bool, true, false, cond, List, [], ◌∷◌, length, map, get_or, ap, ap₂, refl, sym, arith}
use Rattle.std.specs.Prelude.{filter, Contains, ◌↔◌, IsTrue, ◌&&◌}
use Rattle.std.specs.List.{range_with_len}
use Rattle.std.proofs.lemmas.Bool.{false≢true}
use Rattle.std.proofs.lemmas.List.{length-map, get_or-map}
use Rattle.std.specs.List.Sorted.{IsPermutation}
use Rattle.std.proofs.lemmas.List.Recursion.{is_sum_by}
use Rattle.std.proofs.lemmas.List.Sorted.{sum_by-IsPermutation}
use Rattle.cad_versions.specs.lemmas.ListLemmas.{filters_turn}
use Rattle.cad_index.specs.lemmas.MomentLemmas.{filters_joined}
use Rattle.cad_positions.specs.Hits.{hits, once, hit_contains, contains_hit}
use Rattle.cad_positions.specs.Between.{hits_in}

hit_is : (b : Bool) (p : ℕ) (xs : List ℕ) → hits p xs ≡ once b → Contains xs p ↔ IsTrue b
hit_is true p xs h = (λ c. refl, λ e. hit_contains p xs (omega arith))
hit_is false p xs h = (λ c. absurd (omega (arith, contains_hit p xs c)), λ e. absurd (false≢true e))

pub one_less : (b : Bool) {Y : Type 0} (y : Y) (ys : List Y) → length (cond b (y ∷ ys) ys) ≡ once b + length ys
one_less true y ys = omega arith
one_less false y ys = omega arith

same_count : {X : Type 0} (r : ℕ → Bool) (test : X → Bool) (xs : List X) (a : ℕ) → ((k : ℕ) (d : X) → k < length xs → r (a + k) ≡ test (get_or xs k d)) → length (filter r (range_with_len a (length xs))) ≡ length (filter test xs)
same_count r test [] a h = refl
same_count r test (x ∷ xs) a h =
    let n : a + 0 ≡ a = omega arith in
    let e : r a ≡ test x = rw n at (h 0 x (omega arith)) in
    let more = same_count r test xs (a + 1) (λ k d l. let m : a + suc k ≡ (a + 1) + k = omega arith in rw m at (h (suc k) d (omega arith))) in
    omega (arith, one_less (r a) a (filter r (range_with_len (a + 1) (length xs))), one_less (test x) x (filter test xs), more, ap once e)

module _ {X A : Type 0} (test : A → Bool) (f : X → A) (none : A) where
  -- the positions whose value passes
  abbrev passing : List A → List ℕ
  passing vs = filter (λ p. test (get_or vs p none)) (range_with_len 0 (length vs))

  pub holds_at : (xs : List X) (p : ℕ) (d : X) → p < length xs → Contains (passing (map f xs)) p ↔ IsTrue (test (f (get_or xs p d)))
  holds_at xs p d h =
      let n = length-map xs f in
      hit_is (test (f (get_or xs p d))) p (passing (map f xs)) (hits_in (λ q. test (get_or (map f xs) q none)) p 0 (length (map f xs)) (omega arith) (omega arith) ∙ ap (λ a. once (test a)) (get_or-map f xs p d none h))

  pub counted_by : (xs : List X) → length (passing (map f xs)) ≡ length (filter (λ x. test (f x)) xs)
  counted_by xs =
      let n : length (map f xs) ≡ length xs = length-map xs f in
      rw n (same_count (λ q. test (get_or (map f xs) q none)) (λ x. test (f x)) xs 0 (λ k d l. let m : 0 + k ≡ k = omega arith in rw m (ap test (get_or-map f xs k d none l))))

  -- of these positions, those that pass another test
  pub counted_among : (p : ℕ → Bool) (q : X → Bool) (xs : List X) → ((k : ℕ) (d : X) → k < length xs → p k ≡ q (get_or xs k d)) → length (filter p (passing (map f xs))) ≡ length (filter (λ x. test (f x)) (filter q xs))
  counted_among p q xs same =
      let n : length (map f xs) ≡ length xs = length-map xs f in
      let at : ℕ → Bool = λ k. test (get_or (map f xs) k none) in
      let both : length (filter (λ k. at k && p k) (range_with_len 0 (length xs))) ≡ length (filter (λ x. test (f x) && q x) xs) =
      same_count (λ k. at k && p k) (λ x. test (f x) && q x) xs 0 (λ k d l. let m : 0 + k ≡ k = omega arith in rw m (ap₂ (λ a b. a && b) (ap test (get_or-map f xs k d none l)) (same k d l))) in
      rw n (ap length (sym (filters_joined p at (range_with_len 0 (length xs)))) ∙ both ∙ ap length (filters_joined q (λ x. test (f x)) xs ∙ filters_turn q (λ x. test (f x)) xs))

-- in another order equally many pass
pub passing_permuted : (p : ℕ → Bool) (xs ys : List ℕ) → IsPermutation xs ys → length (filter p ys) ≡ length (filter p xs)
passing_permuted p xs ys moved =
    let same = is_sum_by (λ (l : List ℕ). length (filter p l)) (λ x. once (p x)) refl (λ x l. one_less (p x) x (filter p l)) in
    same ys ∙ sum_by-IsPermutation (λ x. once (p x)) xs ys moved ∙ sym (same xs)
