-- The features at positions: at those of all that pass, and from a start on.
use Rattle.std.proofs.Common.{◌≡◌, ◌∙◌, ℕ, zero, suc, ◌+◌, ◌^◌, ◌<◌, ◌≤◌, ℤ, Bool, true, false, cond, List, [], ◌∷◌, length, filter, drop, drop-cons, get_or, ap, sym, refl, arith, slice_get, Option, Some, None, ⊎_elim}
use Rattle.std.specs.Prelude.{nat_le}
use Rattle.std.specs.List.{range_with_len}
use Rattle.std.specs.List.Sorted.{IsPartitionPoint}
use Rattle.std.proofs.lemmas.Bool.{not-false, not-true}
use Rattle.std.proofs.lemmas.Bool.Decides.{nat_tests}
use Rattle.std.proofs.lemmas.Option.{get_or_from_slice_get, slice_get_cases, slice_get_within}
use Rattle.cad_feature.specs.Features.{Item}
use Rattle.cad_layer.specs.Identifiers.{comes_after}
use Rattle.cad_layer.specs.lemmas.AfterLemmas.{is_no_later}
use Rattle.cad_positions.specs.AllRows.{most, most_is, rows_of}
use Rattle.cad_run.specs.Positions.{holds_for, holds_at, found_then, items_at, PassFrom}
use Rattle.cad_run.specs.Slices.{is_later}
use Rattle.std.proofs.lemmas.List.Elements.{filter_agree}

module _ (c : Item → Bool) (xs : List Item) where
  found_here : (b : Bool) (i : ℕ) (x : Item) (ks : List ℕ) (ys : List Item) → slice_get xs i ≡ Some x → items_at xs ks ≡ ys → items_at xs (cond b (i ∷ ks) ks) ≡ cond b (x ∷ ys) ys
  found_here true i x ks ys at h = ap (λ o. found_then o (items_at xs ks)) at ∙ ap (λ us. x ∷ us) h
  found_here false i x ks ys at h = h

  nothing_left : (i : ℕ) → length xs ≤ i → drop i xs ≡ []
  nothing_left i h = none_left xs i h
    where
      none_left : (zs : List Item) (i : ℕ) → length zs ≤ i → drop i zs ≡ []
      none_left [] zero h = refl
      none_left [] (suc i) h = refl
      none_left (z ∷ zs) zero h = absurd (omega (arith, h))
      none_left (z ∷ zs) (suc i) h = none_left zs i (omega (arith, h))

  unfolded : (from n : ℕ) → range_with_len from (suc n) ≡ from ∷ range_with_len (suc from) n
  unfolded from n = let e : from + 1 ≡ suc from = omega arith in ap (λ k. from ∷ range_with_len k n) e

  -- the positions from one on of the features that pass
  rows_on : (from n : ℕ) → length xs ≤ from + n → items_at xs (filter (holds_at c xs) (range_with_len from n)) ≡ filter c (drop from xs)
  rows_on from zero long = sym (ap (filter c) (nothing_left from (omega (arith, long))))
  rows_on from (suc n) long = ap (λ ks. items_at xs (filter (holds_at c xs) ks)) (unfolded from n) ∙ here (filter (holds_at c xs) (range_with_len (suc from) n)) (rows_on (suc from) n (omega (arith, long)))
    where
      here : (ks : List ℕ) → items_at xs ks ≡ filter c (drop (suc from) xs) → items_at xs (cond (holds_at c xs from) (from ∷ ks) ks) ≡ filter c (drop from xs)
      here ks later =
          ⊎_elim
          (λ (found : (x : Item) × (from < length xs) × (slice_get xs from ≡ Some x) × (get_or xs from x ≡ x)). ap (λ o. items_at xs (cond (holds_for c o) (from ∷ ks) ks)) found.2
          ∙ found_here (c found.0) from found.0 ks _ found.2 later
          ∙ sym (ap (filter c) (drop-cons xs from found.0 found.1 ∙ ap (λ y. y ∷ drop (suc from) xs) found.3)))
          (λ past. ap (λ o. items_at xs (cond (holds_for c o) (from ∷ ks) ks)) past.1
          ∙ later
          ∙ ap (filter c) (nothing_left (suc from) (omega (arith, past.0)) ∙ sym (nothing_left from past.0)))
          (slice_get_cases xs from).1

  -- the features at all positions of those that pass
  pub rows_passing : (left : ℕ → Bool) → ((k : ℕ) → left k ≡ holds_at c xs k) → length xs ≤ 2 ^ 32 → items_at xs (rows_of left) ≡ filter c xs
  rows_passing left stands few =
      ap (items_at xs) (filter_agree left (holds_at c xs) stands (range_with_len 0 most)) ∙ rows_on 0 most (omega (arith, few, most_is))

-- ---- from a start on

module _ (c : Item → Bool) (xs : List Item) (start : ℕ) (pass : PassFrom c xs start) where
  sought_here : (o : Option Item) (t : Bool) (k : ℕ) (ks : List ℕ) (ys : List Item) → slice_get xs k ≡ o → nat_le start k ≡ t → items_at xs ks ≡ filter c ys → items_at xs (cond t (k ∷ ks) ks) ≡ filter c (found_then o ys)
  sought_here None true k ks ys at le h = ap (λ o. found_then o (items_at xs ks)) at ∙ h
  sought_here None false k ks ys at le h = h
  sought_here (Some x) true k ks ys at le h = rw (pass k x at ∙ le) (ap (λ o. found_then o (items_at xs ks)) at ∙ ap (λ us. x ∷ us) h)
  sought_here (Some x) false k ks ys at le h = rw (pass k x at ∙ le) h

  pub rows_sought : (ks : List ℕ) → items_at xs (filter (nat_le start) ks) ≡ filter c (items_at xs ks)
  rows_sought [] = refl
  rows_sought (k ∷ ks) = sought_here (slice_get xs k) (nat_le start k) k _ _ refl refl (rows_sought ks)

-- a list that a search parts
module _ (last : ℤ × ℤ) (xs : List Item) (first : ℕ) (split : IsPartitionPoint (λ x. is_no_later last x ≡ true) (λ x. is_no_later last x ≡ false) xs first) where
  pub parted_at : PassFrom (is_later (Some last)) xs first
  parted_at k x at = go (nat_le first k) refl
    where
      read : get_or xs k x ≡ x
      read = get_or_from_slice_get xs k x x at

      go : (b : Bool) → nat_le first k ≡ b → comes_after last x ≡ b
      go true le = ap (comes_after last) (sym read) ∙ not-false (comes_after last (get_or xs k x)) (split.1 k x (grind (arith, nat_tests)) (slice_get_within xs k x at))
      go false le = ap (comes_after last) (sym read) ∙ not-true (comes_after last (get_or xs k x)) (split.0 k x (omega arith) (grind (arith, nat_tests)))
