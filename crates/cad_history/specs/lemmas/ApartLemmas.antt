-- Lists that ascend, of which no element of one is in the place of an element of the other.
use Rattle.std.proofs.Common.{◌≡◌, Bool, true, false, cond, not, ◌||◌, List, [], ◌∷◌, map, filter, refl, sym, ap, ap₂, ◌∙◌, Ordering, Less, Equal, Greater, is_eq, true≢false}
use Rattle.std.specs.List.{AllByRecursion, list_any}
use Rattle.std.specs.List.Sorted.{IsStrictlySortedBy}
use Rattle.std.specs.Cmp.{IsTotalOrder}
use Rattle.std.specs.Ordering.{ordering_reverse}
use Rattle.std.proofs.lemmas.List.Kept.{IsStrictlySortedBy-filter}
use Rattle.cad_versions.specs.lemmas.ListLemmas.{all_weaker, all_filtered}
use Rattle.cad_layer.specs.Merging.{put_at, put, merged}
use Rattle.cad_layer.specs.lemmas.MergeLemmas.{IsNew, put_front, map_put, filter_put, filter_put_out, merged_put, merged_merged, all_merged, merged_ascends}

module _ {X : Type 0} (cmp : X → X → Ordering) (total : IsTotalOrder cmp) where
  -- no element of the second list is in the place of one of the first
  abbrev pub AreApart : List X → List X → Type 0
  AreApart xs cs = AllByRecursion (λ c. IsNew cmp c xs) cs

  turned : (x y : X) → is_eq (cmp x y) ≡ is_eq (cmp y x)
  turned x y = ap is_eq (total.antisymm x y) ∙ go (cmp y x)
    where
      go : (o : Ordering) → is_eq (ordering_reverse o) ≡ is_eq o
      go Less = refl
      go Equal = refl
      go Greater = refl

  pub other_way : (x y : X) → is_eq (cmp x y) ≡ false → is_eq (cmp y x) ≡ false
  other_way x y e = sym (turned x y) ∙ e

  -- ---- the order in which elements are put does not matter

  swap_greater : (n c : X) (ys : List X) → cmp n c ≡ Greater → put cmp c (put cmp n ys) ≡ put cmp n (put cmp c ys)
  swap_greater n c ys e = ap (λ o. merged cmp ys (put_at o n c [] (n ∷ []))) (sym e) ∙ merged_put cmp total ys n (c ∷ [])

  swap : (n c : X) (ys : List X) → is_eq (cmp n c) ≡ false → put cmp n (put cmp c ys) ≡ put cmp c (put cmp n ys)
  swap n c ys h = go (cmp n c) refl
    where
      go : (o : Ordering) → cmp n c ≡ o → put cmp n (put cmp c ys) ≡ put cmp c (put cmp n ys)
      go Less e = swap_greater c n ys (total.antisymm c n ∙ ap ordering_reverse e)
      go Equal e = absurd (true≢false (sym (ap is_eq e) ∙ h))
      go Greater e = sym (swap_greater n c ys e)

  put_into : (c : X) (xs bs : List X) → IsNew cmp c bs → merged cmp (put cmp c xs) bs ≡ put cmp c (merged cmp xs bs)
  put_into c xs [] new = refl
  put_into c xs (b ∷ bs) new = ap (put cmp b) (put_into c xs bs new.1) ∙ sym (swap c b (merged cmp xs bs) new.0)

  pub none : (xs : List X) → IsStrictlySortedBy cmp xs → merged cmp [] xs ≡ xs
  unfolding IsStrictlySortedBy
  none [] up = refl
  none (x ∷ xs) up = ap (put cmp x) (none xs up.1) ∙ put_front cmp x xs up.0

  pub either_way : (xs cs : List X) → AreApart xs cs → IsStrictlySortedBy cmp xs → IsStrictlySortedBy cmp cs → merged cmp xs cs ≡ merged cmp cs xs
  unfolding IsStrictlySortedBy
  either_way xs [] apart up rising = sym (none xs up)
  either_way xs (c ∷ cs) apart up rising =
      ap (put cmp c) (either_way xs cs apart.1 up rising.1) ∙ sym (put_into c cs xs apart.0) ∙ ap (λ zs. merged cmp zs xs) (put_front cmp c cs rising.0)

  less_apart : (x y : X) → cmp x y ≡ Less → is_eq (cmp x y) ≡ false
  less_apart x y e = ap is_eq e

  all_apart : (x : X) (ys : List X) → AllByRecursion (λ y. cmp x y ≡ Less) ys → IsNew cmp x ys
  all_apart x ys all = all_weaker (λ y. cmp x y ≡ Less) (λ y. is_eq (cmp x y) ≡ false) (less_apart x) ys all

  -- ---- filters

  module _ (p : X → Bool) where
    -- what passes and what does not are the whole list
    pub parted : (xs : List X) → IsStrictlySortedBy cmp xs → merged cmp (filter p xs) (filter (λ x. not (p x)) xs) ≡ xs
    unfolding IsStrictlySortedBy
    parted [] up = refl
    parted (x ∷ xs) up = go (p x) (parted xs up.1)
      where
        whole : List X
        whole = merged cmp (filter p xs) (filter (λ y. not (p y)) xs)

        at_front : whole ≡ xs → put cmp x whole ≡ x ∷ xs
        at_front more = ap (put cmp x) more ∙ put_front cmp x xs up.0

        go : (b : Bool) → whole ≡ xs → merged cmp (cond b (x ∷ filter p xs) (filter p xs)) (cond (not b) (x ∷ filter (λ y. not (p y)) xs) (filter (λ y. not (p y)) xs)) ≡ x ∷ xs
        go true more =
            ap (λ zs. merged cmp zs (filter (λ y. not (p y)) xs)) (sym (put_front cmp x (filter p xs) (all_filtered (λ y. cmp x y ≡ Less) p xs up.0)))
            ∙ put_into x (filter p xs) (filter (λ y. not (p y)) xs) (all_apart x (filter (λ y. not (p y)) xs) (all_filtered (λ y. cmp x y ≡ Less) (λ y. not (p y)) xs up.0))
            ∙ at_front more
        go false more = at_front more

    -- each list is filtered by itself
    pub filter_apart : (xs cs : List X) → AreApart xs cs → IsStrictlySortedBy cmp xs → IsStrictlySortedBy cmp cs → filter p (merged cmp xs cs) ≡ merged cmp (filter p xs) (filter p cs)
    unfolding IsStrictlySortedBy
    filter_apart xs [] apart up rising = refl
    filter_apart xs (c ∷ cs) apart up rising = go (p c) refl (filter_apart xs cs apart.1 up rising.1)
      where
        fresh : IsNew cmp c (merged cmp xs cs)
        fresh = all_merged cmp total (λ y. is_eq (cmp c y) ≡ false) xs cs apart.0 (all_apart c cs rising.0)

        go : (b : Bool) → p c ≡ b → filter p (merged cmp xs cs) ≡ merged cmp (filter p xs) (filter p cs) → filter p (merged cmp xs (c ∷ cs)) ≡ merged cmp (filter p xs) (cond b (c ∷ filter p cs) (filter p cs))
        go true h more = filter_put cmp total p c (merged cmp xs cs) h fresh (merged_ascends cmp total xs cs up) ∙ ap (put cmp c) more
        go false h more = filter_put_out cmp p c (merged cmp xs cs) h fresh ∙ more

  -- ---- what changes replace

  -- an element of the list is in its place
  abbrev pub has_place : List X → X → Bool
  has_place cs x = list_any (λ c. is_eq (cmp c x)) cs

  abbrev other : X → X → Bool
  other c x = not (is_eq (cmp c x))

  all_other : (c : X) (xs : List X) → AllByRecursion (λ x. cmp c x ≡ Less) xs → filter (other c) xs ≡ xs
  all_other c [] all = refl
  all_other c (x ∷ xs) all = ap (λ o. cond (not (is_eq o)) (x ∷ filter (other c) xs) (filter (other c) xs)) all.0 ∙ ap (λ zs. x ∷ zs) (all_other c xs all.1)

  put_other : (c : X) (xs : List X) → IsStrictlySortedBy cmp xs → put cmp c (filter (other c) xs) ≡ put cmp c xs
  unfolding IsStrictlySortedBy
  put_other c [] up = refl
  put_other c (x ∷ xs) up = go (cmp c x) refl (put_other c xs up.1)
    where
      go : (o : Ordering) → cmp c x ≡ o → put cmp c (filter (other c) xs) ≡ put cmp c xs
          → put cmp c (cond (not (is_eq o)) (x ∷ filter (other c) xs) (filter (other c) xs)) ≡ put_at o c x xs (put cmp c xs)
      go Less e more =
          let higher = all_weaker (λ y. cmp x y ≡ Less) (λ y. cmp c y ≡ Less) (λ y k. total.trans c x y e k) xs up.0 in
          ap (λ zs. put cmp c (x ∷ zs)) (all_other c xs higher) ∙ put_front cmp c (x ∷ xs) (e, higher)
      go Equal e more =
          let higher = all_weaker (λ y. cmp x y ≡ Less) (λ y. cmp c y ≡ Less) (λ y k. total.congr c x y e ∙ k) xs up.0 in
          ap (put cmp c) (all_other c xs higher) ∙ put_front cmp c xs higher
      go Greater e more = ap (λ o. put_at o c x (filter (other c) xs) (put cmp c (filter (other c) xs))) e ∙ ap (λ zs. x ∷ zs) more

  neither : (a b : Bool) → not (a || b) ≡ cond (not b) (not a) false
  neither true true = refl
  neither true false = refl
  neither false true = refl
  neither false false = refl

  one_more_other : (c : X) (cs xs : List X) → filter (λ x. not (has_place (c ∷ cs) x)) xs ≡ filter (other c) (filter (λ x. not (has_place cs x)) xs)
  one_more_other c cs [] = refl
  one_more_other c cs (x ∷ xs) = go (is_eq (cmp c x)) refl (has_place cs x) (one_more_other c cs xs)
    where
      fewer : List X
      fewer = filter (λ y. not (has_place cs y)) xs

      go : (a : Bool) → is_eq (cmp c x) ≡ a → (b : Bool) → filter (λ y. not (has_place (c ∷ cs) y)) xs ≡ filter (other c) fewer
          → cond (not (a || b)) (x ∷ filter (λ y. not (has_place (c ∷ cs) y)) xs) (filter (λ y. not (has_place (c ∷ cs) y)) xs) ≡ filter (other c) (cond (not b) (x ∷ fewer) fewer)
      go true e true more = more
      go true e false more = more ∙ sym (ap (λ b. cond (not b) (x ∷ filter (other c) fewer) (filter (other c) fewer)) e)
      go false e true more = more
      go false e false more = ap (λ zs. x ∷ zs) more ∙ sym (ap (λ b. cond (not b) (x ∷ filter (other c) fewer) (filter (other c) fewer)) e)

  -- what changes replace may be left out before they are merged
  pub outer : (xs cs : List X) → IsStrictlySortedBy cmp xs → IsStrictlySortedBy cmp cs → merged cmp xs cs ≡ merged cmp (filter (λ x. not (has_place cs x)) xs) cs
  unfolding IsStrictlySortedBy
  outer xs [] up rising = sym (each_stays xs)
    where
      each_stays : (ys : List X) → filter (λ x. true) ys ≡ ys
      each_stays [] = refl
      each_stays (y ∷ ys) = ap (λ zs. y ∷ zs) (each_stays ys)
  outer xs (c ∷ cs) up rising =
      let zs = filter (λ x. not (has_place cs x)) xs in
      let new = all_apart c cs rising.0 in
      ap (put cmp c) (outer xs cs up rising.1)
      ∙ sym (put_into c zs cs new)
      ∙ ap (λ ys. merged cmp ys cs) (sym (put_other c zs (IsStrictlySortedBy-filter cmp (λ x. not (has_place cs x)) xs up)))
      ∙ put_into c (filter (other c) zs) cs new
      ∙ ap (λ ys. put cmp c (merged cmp ys cs)) (sym (one_more_other c cs xs))

  place_apart : (c x : X) (cs : List X) → has_place (c ∷ cs) x ≡ false → (is_eq (cmp c x) ≡ false) × (has_place cs x ≡ false)
  place_apart c x cs e = go (is_eq (cmp c x)) e
    where
      go : (a : Bool) → (a || has_place cs x) ≡ false → (a ≡ false) × (has_place cs x ≡ false)
      go true h = absurd (true≢false h)
      go false h = (refl, h)

  -- an element in whose place the list has none is new to it
  pub no_place : (cs : List X) (x : X) → has_place cs x ≡ false → IsNew cmp x cs
  no_place [] x e = tt
  no_place (c ∷ cs) x e = (other_way c x (place_apart c x cs e).0, no_place cs x (place_apart c x cs e).1)

  -- the changes are apart from what they do not replace
  pub transposed : (cs us : List X) → AllByRecursion (λ u. has_place cs u ≡ false) us → AreApart us cs
  transposed [] us all = tt
  transposed (c ∷ cs) us all = (
    all_weaker (λ u. has_place (c ∷ cs) u ≡ false) (λ u. is_eq (cmp c u) ≡ false) (λ u e. (place_apart c u cs e).0) us all,
    transposed cs us (all_weaker (λ u. has_place (c ∷ cs) u ≡ false) (λ u. has_place cs u ≡ false) (λ u e. (place_apart c u cs e).1) us all),
  )

  -- elements in one place are alike
  pub same_place : (x y : X) (cs : List X) → is_eq (cmp y x) ≡ true → has_place cs x ≡ has_place cs y
  same_place x y cs e = go (cmp y x) refl e
    where
      alike : cmp y x ≡ Equal → (zs : List X) → has_place zs x ≡ has_place zs y
      alike k [] = refl
      alike k (z ∷ zs) = ap₂ ◌||◌ (turned z x ∙ ap is_eq (sym (total.congr y x z k)) ∙ turned y z) (alike k zs)

      go : (o : Ordering) → cmp y x ≡ o → is_eq o ≡ true → has_place cs x ≡ has_place cs y
      go Less k h = absurd (true≢false (sym h))
      go Equal k h = alike k cs
      go Greater k h = absurd (true≢false (sym h))

  -- lists whose elements are merged in another order
  pub in_turn : (l a e q : List X) → AreApart e a → IsStrictlySortedBy cmp e → IsStrictlySortedBy cmp a
      → merged cmp (merged cmp l a) (merged cmp e q) ≡ merged cmp (merged cmp l e) (merged cmp a q)
  in_turn l a e q apart up rising =
      merged_merged cmp total (merged cmp l a) e q
      ∙ ap (λ zs. merged cmp zs q) (sym (merged_merged cmp total l a e) ∙ ap (merged cmp l) (sym (either_way e a apart up rising)) ∙ merged_merged cmp total l e a)
      ∙ sym (merged_merged cmp total (merged cmp l e) a q)

-- a map that keeps the places
pub map_merged : {X Y : Type 0} (cmp : X → X → Ordering) (to : Y → Y → Ordering) (g : X → Y) → ((a b : X) → to (g a) (g b) ≡ cmp a b) → (xs cs : List X) → map g (merged cmp xs cs) ≡ merged to (map g xs) (map g cs)
map_merged cmp to g same xs [] = refl
map_merged cmp to g same xs (c ∷ cs) = map_put cmp to g same c (merged cmp xs cs) ∙ ap (put to (g c)) (map_merged cmp to g same xs cs)
