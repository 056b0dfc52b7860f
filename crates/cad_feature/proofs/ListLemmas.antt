-- Loops over lists that map or filter what they go through, and order that a filter and a map keep.
use Rattle.std.proofs.Common.{◌≡◌, ℕ, ◌+◌, ◌<◌, ◌≤◌, zero, suc, Bool, true, false, not, ◌||◌, cond, List, [], ◌∷◌, ◌++◌, length, map, filter, take, drop, refl, sym, ap, ◌∙◌, get_or, Ordering, Less, append-nil, Some, None, arith, true≢false}
use Rattle.std.specs.List.{AllByRecursion, position_or_len, list_any}
use Rattle.std.specs.List.Sorted.{IsStrictlySortedBy}
use Rattle.std.proofs.lemmas.List.{map_push, take_more}
use Rattle.std.proofs.lemmas.List.Elements.{filter_more}
use Rattle.std.proofs.lemmas.List.Sums.{prefix_len_passes}
use Rattle.std.proofs.lemmas.Bool.Decides.{nat_tests}
use Rattle.std.proofs.lemmas.List.Kept.{IsStrictlySortedBy-filter}
use lib.Dec.{ltb}

-- ---- what a filter leaves out may be cut off

module _ {A : Type 0} (p : A → Bool) where
  pub front_cut : (us : List A) (n : ℕ) → ((j : ℕ) (d : A) → j < n → j < length us → p (get_or us j d) ≡ false) → filter p (drop n us) ≡ filter p us
  front_cut us zero none = refl
  front_cut [] (suc n) none = refl
  front_cut (u ∷ us) (suc n) none = rw (none 0 u (omega arith) (omega arith)) (front_cut us n (λ j d h k. none (suc j) d (omega (arith, h)) (omega (arith, k))))

  pub back_cut : (us : List A) (n : ℕ) → ((j : ℕ) (d : A) → n ≤ j → j < length us → p (get_or us j d) ≡ false) → filter p (take n us) ≡ filter p us
  back_cut [] zero none = refl
  back_cut [] (suc n) none = refl
  back_cut (u ∷ us) zero none = rw (none 0 u (omega arith) (omega arith)) (back_cut us zero (λ j d h k. none (suc j) d (omega arith) (omega (arith, k))))
  back_cut (u ∷ us) (suc n) none = ap (λ ws. cond (p u) (u ∷ ws) ws) (back_cut us n (λ j d h k. none (suc j) d (omega (arith, h)) (omega (arith, k))))

  -- as what stands before the first that passes
  pub from_first : (us : List A) → filter p (drop (position_or_len p us) us) ≡ filter p us
  from_first us = front_cut us (position_or_len p us) (λ j d h k. fails (p (get_or us j d)) (prefix_len_passes (λ u. not (p u)) us j d h))
    where
      fails : (b : Bool) → not b ≡ true → b ≡ false
      fails true e = absurd (true≢false (sym e))
      fails false e = refl

-- the place of the first that passes, and that there is none
pub found_at : (m n k : ℕ) → cond (ltb m n) (Some m) None ≡ Some k → m ≡ k
found_at m n k = go (ltb m n)
  where
    go : (b : Bool) → cond b (Some m) None ≡ Some k → m ≡ k
    go true e = cc
    go false e = absurd cc

pub found_nowhere : (m n : ℕ) → cond (ltb m n) (Some m) None ≡ None → n ≤ m
found_nowhere m n e = go (ltb m n) refl e
  where
    go : (b : Bool) → ltb m n ≡ b → cond b (Some m) None ≡ None → n ≤ m
    go true k e = absurd cc
    go false k e = grind (arith, nat_tests)

pub list_any_mapped : {A B : Type 0} (f : A → B) (p : B → Bool) (us : List A) → list_any (λ u. p (f u)) us ≡ list_any p (map f us)
list_any_mapped f p [] = refl
list_any_mapped f p (u ∷ us) = ap (λ b. p (f u) || b) (list_any_mapped f p us)

module _ {A B : Type 0} (f : A → B) where
  -- one element more of those that are mapped; they are seen by g
  pub map_more : {C : Type 0} (g : C → B) (us : List A) (i : ℕ) (d : A) (xs ys : List C) (x : C) → i < length us → map g xs ≡ map f (take i us) → ys ≡ xs ++ x ∷ [] → g x ≡ f (get_or us i d) → map g ys ≡ map f (take (i + 1) us)
  map_more g us i d xs ys x h so_far added is =
      ap (map g) added ∙ map_push g xs x ∙ ap (λ bs. bs ++ g x ∷ []) so_far ∙ ap (λ b. map f (take i us) ++ b ∷ []) is ∙ sym (map_push f (take i us) (get_or us i d)) ∙ ap (map f) (sym (take_more us i d h))

  -- one element more of those that are filtered, which is kept, or left out
  pub kept_more : (p : A → Bool) (us : List A) (i : ℕ) (a : A) (xs ys : List B) (x : B) → i < length us → a ≡ get_or us i a → p a ≡ true → xs ≡ map f (filter p (take i us)) → ys ≡ xs ++ x ∷ [] → x ≡ f a → ys ≡ map f (filter p (take (i + 1) us))
  kept_more p us i a xs ys x h at passes so_far added is =
      added ∙ ap (λ bs. bs ++ x ∷ []) so_far ∙ ap (λ b. map f (filter p (take i us)) ++ b ∷ []) is ∙ sym (map_push f (filter p (take i us)) a)
      ∙ ap (map f) (sym (filter_more p us i a h ∙ ap (λ b. filter p (take i us) ++ cond (p b) (b ∷ []) []) (sym at) ∙ ap (λ t. filter p (take i us) ++ cond t (a ∷ []) []) passes))

  pub left_more : (p : A → Bool) (us : List A) (i : ℕ) (a : A) (xs : List B) → i < length us → a ≡ get_or us i a → p a ≡ false → xs ≡ map f (filter p (take i us)) → xs ≡ map f (filter p (take (i + 1) us))
  left_more p us i a xs h at fails so_far =
      so_far ∙ ap (map f) (sym (filter_more p us i a h ∙ ap (λ b. filter p (take i us) ++ cond (p b) (b ∷ []) []) (sym at) ∙ ap (λ t. filter p (take i us) ++ cond t (a ∷ []) []) fails ∙ append-nil (filter p (take i us))))

  -- what is mapped ascends us before
  all_mapped : (cmp : B → B → Ordering) (a : A) (us : List A) → AllByRecursion (λ b. cmp (f a) (f b) ≡ Less) us → AllByRecursion (λ y. cmp (f a) y ≡ Less) (map f us)
  all_mapped cmp a [] all = tt
  all_mapped cmp a (b ∷ bs) all = (all.0, all_mapped cmp a bs all.1)

  ascends_mapped : (cmp : B → B → Ordering) (us : List A) → IsStrictlySortedBy (λ a b. cmp (f a) (f b)) us → IsStrictlySortedBy cmp (map f us)
  unfolding IsStrictlySortedBy
  ascends_mapped cmp [] up = tt
  ascends_mapped cmp (a ∷ us) up = (all_mapped cmp a us up.0, ascends_mapped cmp us up.1)

  pub ascends_kept : (cmp : B → B → Ordering) (p : A → Bool) (us : List A) → IsStrictlySortedBy (λ a b. cmp (f a) (f b)) us → IsStrictlySortedBy cmp (map f (filter p us))
  ascends_kept cmp p us up = ascends_mapped cmp (filter p us) (IsStrictlySortedBy-filter (λ a b. cmp (f a) (f b)) p us up)

  -- and the other way round
  all_unmapped : (cmp : B → B → Ordering) (a : A) (us : List A) → AllByRecursion (λ y. cmp (f a) y ≡ Less) (map f us) → AllByRecursion (λ b. cmp (f a) (f b) ≡ Less) us
  all_unmapped cmp a [] all = tt
  all_unmapped cmp a (b ∷ bs) all = (all.0, all_unmapped cmp a bs all.1)

  pub ascends_unmapped : (cmp : B → B → Ordering) (us : List A) → IsStrictlySortedBy cmp (map f us) → IsStrictlySortedBy (λ a b. cmp (f a) (f b)) us
  unfolding IsStrictlySortedBy
  ascends_unmapped cmp [] up = tt
  ascends_unmapped cmp (a ∷ us) up = (all_unmapped cmp a us up.0, ascends_unmapped cmp us up.1)
