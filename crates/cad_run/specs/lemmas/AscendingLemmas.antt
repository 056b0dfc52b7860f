-- Features at positions that ascend, and lists that are merged: they ascend, and their lengths.
use Rattle.std.proofs.Common.{◌≡◌, ℕ, zero, suc, ◌+◌, ◌<◌, ◌≤◌, List, [], ◌∷◌, length, slice_get, get_or, Option, Some, None, Ordering, Less, Equal, Greater, refl, sym, ap, ◌∙◌, arith}
use Rattle.std.specs.List.{AllByRecursion, AllPairs}
use Rattle.std.specs.List.Sorted.{IsStrictlySortedBy, IsStrictlyIncreasing}
use Rattle.std.proofs.lemmas.List.Kept.{AllPairs-from_increasing}
use Rattle.std.proofs.lemmas.Map.Keys.{Less-from_sorted}
use Rattle.std.proofs.lemmas.Option.{slice_get_within, get_or_from_slice_get}
use Rattle.cad_feature.specs.Features.{Item, by_identifier}
use Rattle.cad_layer.specs.Merging.{put, put_at, merged}
use Rattle.cad_run.specs.Positions.{found_then, items_at}

Increase : List ℕ → Type 0
Increase ks = AllPairs (λ x y. x < y) ks

increase_later : (k : ℕ) (ks : List ℕ) → Increase (k ∷ ks) → Increase ks
unfolding Increase
increase_later k ks up i j d lt h = up (suc i) (suc j) d (omega (arith, lt)) (omega (arith, h))

first_below : (k j : ℕ) (ks : List ℕ) → Increase (k ∷ (j ∷ ks)) → k < j
unfolding Increase
first_below k j ks up = up 0 1 0 (omega arith) (omega arith)

without_second : (k j : ℕ) (ks : List ℕ) → Increase (k ∷ (j ∷ ks)) → Increase (k ∷ ks)
unfolding Increase
without_second k j ks up zero zero d lt h = absurd (omega (arith, lt))
without_second k j ks up zero (suc n) d lt h = up 0 (suc (suc n)) d (omega arith) (omega (arith, h))
without_second k j ks up (suc i) zero d lt h = absurd (omega (arith, lt))
without_second k j ks up (suc i) (suc n) d lt h = up (suc (suc i)) (suc (suc n)) d (omega (arith, lt)) (omega (arith, h))

module _ (xs : List Item) (rises : IsStrictlySortedBy by_identifier xs) where
  below : (k j : ℕ) (x y : Item) → slice_get xs k ≡ Some x → slice_get xs j ≡ Some y → k < j → by_identifier x y ≡ Less
  below k j x y at other lt =
      ap (λ z. by_identifier z y) (sym (get_or_from_slice_get xs k x x at)) ∙ ap (by_identifier (get_or xs k x)) (sym (get_or_from_slice_get xs j y x other))
      ∙ Less-from_sorted by_identifier xs k j x rises lt (slice_get_within xs j y other)

  all_below : (k : ℕ) (x : Item) → slice_get xs k ≡ Some x → (ks : List ℕ) → Increase (k ∷ ks) → AllByRecursion (λ y. by_identifier x y ≡ Less) (items_at xs ks)
  all_below k x at [] up = tt
  all_below k x at (j ∷ ks) up = go (slice_get xs j) refl (all_below k x at ks (without_second k j ks up))
    where
      go : (o : Option Item) → slice_get xs j ≡ o → AllByRecursion (λ y. by_identifier x y ≡ Less) (items_at xs ks)
          → AllByRecursion (λ y. by_identifier x y ≡ Less) (found_then o (items_at xs ks))
      go None e all = all
      go (Some y) e all = (below k j x y at e (first_below k j ks up), all)

  items_rise : (ks : List ℕ) → Increase ks → IsStrictlySortedBy by_identifier (items_at xs ks)
  unfolding IsStrictlySortedBy
  items_rise [] up = tt
  items_rise (k ∷ ks) up = go (slice_get xs k) refl (items_rise ks (increase_later k ks up))
    where
      go : (o : Option Item) → slice_get xs k ≡ o → IsStrictlySortedBy by_identifier (items_at xs ks) → IsStrictlySortedBy by_identifier (found_then o (items_at xs ks))
      go None e later = later
      go (Some x) e later = (all_below k x e ks up, later)

  -- the features at positions that ascend
  pub items_ascend : (ks : List ℕ) → IsStrictlyIncreasing ks → IsStrictlySortedBy by_identifier (items_at xs ks)
  unfolding Increase
  items_ascend ks up = items_rise ks (AllPairs-from_increasing ks up)

-- ---- lengths

pub one_more : (o : Option Item) (xs : List Item) → length (found_then o xs) ≤ suc (length xs)
one_more None xs = omega arith
one_more (Some x) xs = omega arith

pub fewer_items : (xs : List Item) (ks : List ℕ) → length (items_at xs ks) ≤ length ks
fewer_items xs [] = omega arith
fewer_items xs (k ∷ ks) = omega (arith, one_more (slice_get xs k) (items_at xs ks), fewer_items xs ks)

put_length : (x : Item) (ys : List Item) → length (put by_identifier x ys) ≤ suc (length ys)
put_length x [] = omega arith
put_length x (y ∷ ys) = go (by_identifier x y) (put_length x ys)
  where
    go : (o : Ordering) → length (put by_identifier x ys) ≤ suc (length ys) → length (put_at o x y ys (put by_identifier x ys)) ≤ suc (suc (length ys))
    go Less more = omega arith
    go Equal more = omega arith
    go Greater more = omega (arith, more)

pub fewer_merged : (xs cs : List Item) → length (merged by_identifier xs cs) ≤ length xs + length cs
fewer_merged xs [] = omega arith
fewer_merged xs (c ∷ cs) = omega (arith, put_length c (merged by_identifier xs cs), fewer_merged xs cs)
