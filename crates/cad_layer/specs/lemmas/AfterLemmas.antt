-- What comes after a feature, in a list that ascends and in one with changes merged into it.
use Rattle.std.proofs.Common.{◌≡◌, ℕ, zero, suc, ◌-◌, ◌≤◌, ◌<◌, ℤ, Bool, true, false, not, List, [], ◌∷◌, length, filter, take, drop, refl, sym, ap, ◌∙◌, subst, arith, get_or, true≢false, ⊎_elim, Ordering, Less, Equal, Greater, is_gt}
use Rattle.std.specs.List.Sorted.{IsStrictlySortedBy, IsPartitionedBy, IsPartitionPoint}
use Rattle.std.specs.Ordering.{ordering_reverse}
use Rattle.std.proofs.Math.Nat.{eq-or-lt_of_le}
use Rattle.std.proofs.lemmas.List.{take_all, length-drop}
use Rattle.std.proofs.lemmas.List.Elements.{All-from_recursion}
use Rattle.std.proofs.lemmas.Bool.{not-true, not-false}
use Rattle.cad_versions.specs.Identifiers.{identifier_cmp}
use Rattle.cad_versions.specs.lemmas.OrderLemmas.{identifiers_total}
use Rattle.cad_feature.specs.Features.{Item, identifier_of, by_identifier}
use Rattle.cad_layer.specs.Identifiers.{comes_after, items_after}

-- each is below every later one
pub ascends : (xs : List Item) → IsStrictlySortedBy by_identifier xs → (i j : ℕ) (d : Item) → i < j → j < length xs → by_identifier (get_or xs i d) (get_or xs j d) ≡ Less
unfolding IsStrictlySortedBy
ascends [] up i j d lt h = absurd (omega (arith, h))
ascends (x ∷ xs) up i zero d lt h = absurd (omega (arith, lt))
ascends (x ∷ xs) up zero (suc j) d lt h = All-from_recursion (λ y. by_identifier x y ≡ Less) xs up.0 j d (omega (arith, h))
ascends (x ∷ xs) up (suc i) (suc j) d lt h = ascends xs up.1 i j d (omega (arith, lt)) (omega (arith, h))

gt_is : (o : Ordering) → o ≡ Less → is_gt o ≡ false
gt_is o e = ap is_gt e

less_from_equal : (a b c : ℤ × ℤ) → identifier_cmp a b ≡ Less → identifier_cmp b c ≡ Equal → identifier_cmp a c ≡ Less
less_from_equal a b c less equal =
    identifiers_total.antisymm a c ∙ ap ordering_reverse (sym (identifiers_total.congr b c a equal) ∙ identifiers_total.antisymm b a ∙ ap ordering_reverse less)

before_by : (a b c : ℤ × ℤ) (o : Ordering) → identifier_cmp b c ≡ o → identifier_cmp a b ≡ Less → is_gt o ≡ false → is_gt (identifier_cmp a c) ≡ false
before_by a b c Less is less h = gt_is _ (identifiers_total.trans a b c less is)
before_by a b c Equal is less h = gt_is _ (less_from_equal a b c less is)
before_by a b c Greater is less h = absurd (true≢false h)

-- a feature that is before one that does not come after does not come after either
pub before : (last : ℤ × ℤ) (x y : Item) → by_identifier x y ≡ Less → comes_after last y ≡ false → comes_after last x ≡ false
before last x y less h = before_by (identifier_of x) (identifier_of y) last (identifier_cmp (identifier_of y) last) refl less h

-- a list that a test divides in two
pub filter_cut : {X : Type 0} (p : X → Bool) (xs : List X) (k : ℕ) → ((i : ℕ) (d : X) → i < k → i < length xs → p (get_or xs i d) ≡ false) → ((i : ℕ) (d : X) → k ≤ i → i < length xs → p (get_or xs i d) ≡ true) → filter p xs ≡ drop k xs
filter_cut p [] zero low high = refl
filter_cut p [] (suc k) low high = refl
filter_cut p (x ∷ xs) zero low high =
    rw (high 0 x (omega arith) (omega arith)) (ap (λ ys. x ∷ ys) (filter_cut p xs zero (λ i d below h. absurd (omega (arith, below))) (λ i d above h. high (suc i) d (omega arith) (omega (arith, h)))))
filter_cut p (x ∷ xs) (suc k) low high =
    rw (low 0 x (omega arith) (omega arith)) (filter_cut p xs k (λ i d below h. low (suc i) d (omega (arith, below)) (omega (arith, h))) (λ i d above h. high (suc i) d (omega (arith, above)) (omega (arith, h))))

-- a feature that is after the last comes after it
pub beyond : (x y : Item) → by_identifier x y ≡ Less → comes_after (identifier_of x) y ≡ true
beyond x y less = ap is_gt (identifiers_total.antisymm (identifier_of y) (identifier_of x) ∙ ap ordering_reverse less)

-- ---- the search

abbrev pub is_no_later : ℤ × ℤ → Item → Bool
is_no_later last x = not (comes_after last x)

pub parted : (last : ℤ × ℤ) (xs : List Item) → IsStrictlySortedBy by_identifier xs → IsPartitionedBy (is_no_later last) xs
parted last xs up i j d le h stands = ⊎_elim
    (λ same. subst (λ n. is_no_later last (get_or xs n d) ≡ true) (sym same) stands)
    (λ lt. ap not (before last (get_or xs i d) (get_or xs j d) (ascends xs up i j d lt h) (not-true (comes_after last (get_or xs j d)) stands)))
    (eq-or-lt_of_le le)

pub found_rest : (last : ℤ × ℤ) (xs : List Item) (first : ℕ) → IsPartitionPoint (λ x. is_no_later last x ≡ true) (λ x. is_no_later last x ≡ false) xs first → drop first xs ≡ items_after last xs
found_rest last xs first split =
    sym (filter_cut (comes_after last) xs first (λ i d below h. not-true (comes_after last (get_or xs i d)) (split.0 i d (omega arith) below)) (λ i d above h. not-false (comes_after last (get_or xs i d)) (split.1 i d above h)))

pub found_after : (last : ℤ × ℤ) (xs : List Item) (first : ℕ) → IsPartitionPoint (λ x. is_no_later last x ≡ true) (λ x. is_no_later last x ≡ false) xs first → take (length xs - first) (drop first xs) ≡ items_after last xs
found_after last xs first split =
    take_all (length xs - first) (drop first xs) (omega (arith, length-drop first xs)) ∙ found_rest last xs first split
