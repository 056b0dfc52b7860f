-- `sort_by` keeps what it sorts; a list without ties has one sorted order, and `sort_by` gives it.
use Rattle.std.proofs.Common.{◌≡◌, ◌+◌, suc, Bool, true, false, cond, List, [], ◌∷◌, length, filter, ◌⊎◌, inl, inr, refl, sym, ap, ap₂, ◌∙◌, subst, arith, Ordering, Less, Equal, Greater, is_lt, is_gt, is_eq, true≢false, IsPermutation, IsSorted, add-one}
use Rattle.std.specs.List.{AllByRecursion, IsDistinct}
use Rattle.std.specs.List.Sorted.{IsStrictlySortedBy}
use Rattle.std.specs.Cmp.{IsTotalOrder}
use Rattle.std.specs.Ordering.{ordering_reverse, eq_by_cmp}
use Rattle.std.proofs.lemmas.Cmp.{tied_itself}
use Rattle.std.proofs.lemmas.List.Elements.{recursion_from_All, All-from_recursion}
use Rattle.std.proofs.lemmas.List.Sorted.{All-permutation, IsPermutation-sym}
use Rattle.std.proofs.lemmas.Map.Keys.{IsDistinct-IsPermutation}
use Rattle.cad_versions.specs.Sorting.{insert_sorted, sort_by}
use Rattle.cad_versions.specs.lemmas.ListLemmas.{all_weaker, all_filtered}

module _ {X : Type 0} (cmp : X → X → Ordering) where
  -- ---- as many, and all that held

  module _ (P : X → Type 0) where
    pub all_inserted : (x : X) (ys : List X) → P x → AllByRecursion P ys → AllByRecursion P (insert_sorted cmp x ys)
    all_inserted x [] p all = (p, tt)
    all_inserted x (y ∷ ys) p all =
        elim (is_gt (cmp x y)) as (λ b. AllByRecursion P (cond b (y ∷ insert_sorted cmp x ys) (x ∷ y ∷ ys))) [ true ↦ (all.0, all_inserted x ys p all.1) | false ↦ (p, all) ]

    pub all_sorted : (xs : List X) → AllByRecursion P xs → AllByRecursion P (sort_by cmp xs)
    all_sorted [] all = tt
    all_sorted (x ∷ xs) all = all_inserted x (sort_by cmp xs) all.0 (all_sorted xs all.1)

  length-insert_sorted : (x : X) (ys : List X) → length (insert_sorted cmp x ys) ≡ length ys + 1
  length-insert_sorted x [] = refl
  length-insert_sorted x (y ∷ ys) =
      elim (is_gt (cmp x y)) as (λ b. length (cond b (y ∷ insert_sorted cmp x ys) (x ∷ y ∷ ys)) ≡ length (y ∷ ys) + 1) [ true ↦ omega (arith, length-insert_sorted x ys) | false ↦ omega arith ]

  pub length-sort_by : (xs : List X) → length (sort_by cmp xs) ≡ length xs
  length-sort_by [] = refl
  length-sort_by (x ∷ xs) = omega (arith, length-insert_sorted x (sort_by cmp xs), length-sort_by xs)

module _ {X : Type 0} (cmp : X → X → Ordering) (total : IsTotalOrder cmp) where
  -- ---- what is sorted and has no ties rises

  less : (x y : X) → is_lt (cmp y x) ≡ false → is_eq (cmp x y) ≡ false → cmp x y ≡ Less
  less x y h k = go (cmp y x) refl (cmp x y) refl
    where
      go : (o : Ordering) → cmp y x ≡ o → (p : Ordering) → cmp x y ≡ p → p ≡ Less
      go o e Less f = refl
      go o e Equal f = absurd (true≢false (sym (ap is_eq f) ∙ k))
      go o e Greater f = absurd (true≢false (sym (ap is_lt (total.antisymm y x ∙ ap ordering_reverse f)) ∙ h))

  below_all : (x : X) (ys : List X) → IsSorted cmp (x ∷ ys) → AllByRecursion (λ y. is_eq (cmp x y) ≡ false) ys → IsStrictlySortedBy cmp ys → AllByRecursion (λ y. cmp x y ≡ Less) ys
  unfolding IsStrictlySortedBy
  below_all x [] sorted apart up = tt
  below_all x (y ∷ ys) sorted apart up =
      let first : cmp x y ≡ Less = less x y (sorted 0 x (omega arith) (omega arith)) apart.0 in
      (first, all_weaker (λ z. cmp y z ≡ Less) (λ z. cmp x z ≡ Less) (λ z. total.trans x y z first) ys up.0)

  rises : (xs : List X) → IsSorted cmp xs → IsDistinct (eq_by_cmp cmp) xs → IsStrictlySortedBy cmp xs
  unfolding IsStrictlySortedBy IsDistinct
  rises [] sorted apart = tt
  rises (x ∷ xs) sorted apart =
      let tail : IsSorted cmp xs = λ k d p q. rw add-one (rw add-one at (sorted (suc k) d (omega arith) (omega arith))) in
      let up = rises xs tail apart.1 in
      (below_all x xs sorted apart.0 up, up)

  -- ---- what rises and has the same elements is the same

  never_itself : (x : X) → cmp x x ≡ Less → ⊥
  never_itself x h = absurd (true≢false (sym (ap is_lt h) ∙ ap is_lt (tied_itself total x)))

  never_both : (x y : X) → cmp x y ≡ Less → cmp y x ≡ Less → ⊥
  never_both x y h k = never_itself x (total.trans x y x h k)

  abbrev AtOrAfter : X → X → Type 0
  AtOrAfter x z = (z ≡ x) ⊎ (cmp x z ≡ Less)

  from_head : (x : X) (xs : List X) → IsStrictlySortedBy cmp (x ∷ xs) → AllByRecursion (AtOrAfter x) (x ∷ xs)
  unfolding IsStrictlySortedBy
  from_head x xs up = (inl refl, all_weaker (λ z. cmp x z ≡ Less) (AtOrAfter x) (λ z h. inr h) xs up.0)

  heads_same : (x y : X) → AtOrAfter x y → AtOrAfter y x → x ≡ y
  heads_same x y (inl e) k = sym e
  heads_same x y (inr h) (inl e) = e
  heads_same x y (inr h) (inr k) = absurd (never_both x y h k)

  -- what holds of all of the first holds of all of the second
  abbrev Covers : List X → List X → Type 1
  Covers xs ys = (P : X → Type 0) → AllByRecursion P xs → AllByRecursion P ys

  tails_cover : (x : X) (xs ys : List X) → IsStrictlySortedBy cmp (x ∷ ys) → Covers (x ∷ xs) (x ∷ ys) → Covers xs ys
  unfolding IsStrictlySortedBy
  tails_cover x xs ys up covers P all =
      let later = covers (λ z. cmp x z ≡ Less → P z) ((λ h. absurd (never_itself x h)), all_weaker P (λ z. cmp x z ≡ Less → P z) (λ z p _. p) xs all) in
      holds ys later.1 up.0
    where
      holds : (zs : List X) → AllByRecursion (λ z. cmp x z ≡ Less → P z) zs → AllByRecursion (λ z. cmp x z ≡ Less) zs → AllByRecursion P zs
      holds [] h k = tt
      holds (z ∷ zs) h k = (h.0 k.0, holds zs h.1 k.1)

  one_order : (xs ys : List X) → IsStrictlySortedBy cmp xs → IsStrictlySortedBy cmp ys → Covers xs ys → Covers ys xs → xs ≡ ys
  unfolding IsStrictlySortedBy
  one_order [] [] p q there back = refl
  one_order [] (y ∷ ys) p q there back = absurd (there (λ _. ⊥) tt).0
  one_order (x ∷ xs) [] p q there back = absurd (back (λ _. ⊥) tt).0
  one_order (x ∷ xs) (y ∷ ys) p q there back =
      let e : x ≡ y = heads_same x y (there (AtOrAfter x) (from_head x xs p)).0 (back (AtOrAfter y) (from_head y ys q)).0 in
      let behind : IsStrictlySortedBy cmp (x ∷ ys) = subst (λ z. IsStrictlySortedBy cmp (z ∷ ys)) (sym e) q in
      ap₂ ◌∷◌ e (one_order xs ys p.1 q.1
      (tails_cover x xs ys behind (λ P all. subst (λ z. AllByRecursion P (z ∷ ys)) (sym e) (there P all)))
      (tails_cover x ys xs p (λ P all. back P (subst (λ z. AllByRecursion P (z ∷ ys)) e all))))

  -- ---- `sort_by` rises and has the same elements

  uninserted : (P : X → Type 0) (new : X) (xs : List X) → AllByRecursion P (insert_sorted cmp new xs) → P new × AllByRecursion P xs
  uninserted P new [] all = (all.0, tt)
  uninserted P new (x ∷ xs) all = go (is_gt (cmp new x)) (uninserted P new xs) all
    where
      go : (b : Bool) → (AllByRecursion P (insert_sorted cmp new xs) → P new × AllByRecursion P xs) → AllByRecursion P (cond b (x ∷ insert_sorted cmp new xs) (new ∷ x ∷ xs)) → P new × AllByRecursion P (x ∷ xs)
      go true more all = let rest = more all.1 in (rest.0, (all.0, rest.1))
      go false more all = all

  sort_covers : (xs : List X) → Covers xs (sort_by cmp xs)
  sort_covers xs P all = all_sorted cmp P xs all

  covers_sort : (xs : List X) → Covers (sort_by cmp xs) xs
  covers_sort [] P all = tt
  covers_sort (x ∷ xs) P all = let parts = uninserted P x (sort_by cmp xs) all in (parts.0, covers_sort xs P parts.1)

  insert_rises : (new : X) (xs : List X) → AllByRecursion (λ y. is_eq (cmp new y) ≡ false) xs → IsStrictlySortedBy cmp xs → IsStrictlySortedBy cmp (insert_sorted cmp new xs)
  unfolding IsStrictlySortedBy
  insert_rises new [] apart up = (tt, tt)
  insert_rises new (x ∷ xs) apart up = go (cmp new x) refl (insert_rises new xs apart.1 up.1)
    where
      go : (o : Ordering) → cmp new x ≡ o → IsStrictlySortedBy cmp (insert_sorted cmp new xs) → IsStrictlySortedBy cmp (cond (is_gt o) (x ∷ insert_sorted cmp new xs) (new ∷ x ∷ xs))
      go Less e more = ((e, all_weaker (λ y. cmp x y ≡ Less) (λ y. cmp new y ≡ Less) (λ y. total.trans new x y e) xs up.0), up)
      go Equal e more = absurd (true≢false (sym (ap is_eq e) ∙ apart.0))
      go Greater e more = (all_inserted cmp (λ y. cmp x y ≡ Less) new xs (total.antisymm x new ∙ ap ordering_reverse e) up.0, more)

  pub sort_rises : (xs : List X) → IsDistinct (eq_by_cmp cmp) xs → IsStrictlySortedBy cmp (sort_by cmp xs)
  unfolding IsStrictlySortedBy IsDistinct
  sort_rises [] apart = tt
  sort_rises (x ∷ xs) apart = insert_rises x (sort_by cmp xs) (sort_covers xs (λ y. is_eq (cmp x y) ≡ false) apart.0) (sort_rises xs apart.1)

  -- ---- one sorted order

  flips : (x y : X) → eq_by_cmp cmp x y ≡ eq_by_cmp cmp y x
  flips x y = ap is_eq (total.antisymm x y) ∙ same (cmp y x)
    where
      same : (o : Ordering) → is_eq (ordering_reverse o) ≡ is_eq o
      same Less = refl
      same Equal = refl
      same Greater = refl

  permuted : (xs ys : List X) → IsPermutation xs ys → Covers xs ys
  permuted xs ys same P all = recursion_from_All P ys (All-permutation P xs ys same (All-from_recursion P xs all))

  pub sorted_is : (xs ys : List X) → IsDistinct (eq_by_cmp cmp) xs → IsPermutation xs ys → IsSorted cmp ys → ys ≡ sort_by cmp xs
  sorted_is xs ys apart same sorted =
      one_order ys (sort_by cmp xs) (rises ys sorted (IsDistinct-IsPermutation (eq_by_cmp cmp) flips xs ys same apart)) (sort_rises xs apart)
      (λ P all. sort_covers xs P (permuted ys xs (IsPermutation-sym xs ys same) P all)) (λ P all. permuted xs ys same P (covers_sort xs P all))

-- ---- what is left of a sorted list is the sorted list of what is left

module _ {X : Type 0} (cmp : X → X → Ordering) (p : X → Bool) where
  before_all : (x : X) (ys : List X) → AllByRecursion (λ y. cmp x y ≡ Less) ys → insert_sorted cmp x ys ≡ x ∷ ys
  before_all x [] all = refl
  before_all x (y ∷ ys) all = ap (λ o. cond (is_gt o) (y ∷ insert_sorted cmp x ys) (x ∷ y ∷ ys)) all.0

  inserted_out : (x : X) (ys : List X) → p x ≡ false → filter p (insert_sorted cmp x ys) ≡ filter p ys
  inserted_out x [] e = ap (λ b. cond b (x ∷ []) []) e
  inserted_out x (y ∷ ys) e = go (is_gt (cmp x y)) (inserted_out x ys e)
    where
      go : (b : Bool) → filter p (insert_sorted cmp x ys) ≡ filter p ys → filter p (cond b (y ∷ insert_sorted cmp x ys) (x ∷ y ∷ ys)) ≡ filter p (y ∷ ys)
      go true more = ap (λ l. cond (p y) (y ∷ l) l) more
      go false more = ap (λ b. cond b (x ∷ filter p (y ∷ ys)) (filter p (y ∷ ys))) e

  module _ (total : IsTotalOrder cmp) where
    inserted_in : (x : X) (ys : List X) → p x ≡ true → IsStrictlySortedBy cmp ys → AllByRecursion (λ y. is_eq (cmp x y) ≡ false) ys → filter p (insert_sorted cmp x ys) ≡ insert_sorted cmp x (filter p ys)
    unfolding IsStrictlySortedBy
    inserted_in x [] e up apart = ap (λ b. cond b (x ∷ []) []) e
    inserted_in x (y ∷ ys) e up apart = go (cmp x y) refl (inserted_in x ys e up.1 apart.1)
      where
        below : cmp x y ≡ Less → AllByRecursion (λ z. cmp x z ≡ Less) (y ∷ ys)
        below k = (k, all_weaker (λ z. cmp y z ≡ Less) (λ z. cmp x z ≡ Less) (λ z. total.trans x y z k) ys up.0)

        there : cmp x y ≡ Greater → y ∷ insert_sorted cmp x (filter p ys) ≡ insert_sorted cmp x (y ∷ filter p ys)
        there k = sym (ap (λ o. cond (is_gt o) (y ∷ insert_sorted cmp x (filter p ys)) (x ∷ y ∷ filter p ys)) k)

        behind : cmp x y ≡ Greater → (b : Bool) → filter p (insert_sorted cmp x ys) ≡ insert_sorted cmp x (filter p ys)
            → cond b (y ∷ filter p (insert_sorted cmp x ys)) (filter p (insert_sorted cmp x ys)) ≡ insert_sorted cmp x (cond b (y ∷ filter p ys) (filter p ys))
        behind k true more = ap (λ l. y ∷ l) more ∙ there k
        behind k false more = more

        go : (o : Ordering) → cmp x y ≡ o → filter p (insert_sorted cmp x ys) ≡ insert_sorted cmp x (filter p ys) → filter p (cond (is_gt o) (y ∷ insert_sorted cmp x ys) (x ∷ y ∷ ys)) ≡ insert_sorted cmp x (filter p (y ∷ ys))
        go Less k more =
            ap (λ b. cond b (x ∷ filter p (y ∷ ys)) (filter p (y ∷ ys))) e
            ∙ sym (before_all x (filter p (y ∷ ys)) (all_filtered (λ z. cmp x z ≡ Less) p (y ∷ ys) (below k)))
        go Equal k more = absurd (true≢false (sym (ap is_eq k) ∙ apart.0))
        go Greater k more = behind k (p y) more

    pub sort_filter : (xs : List X) → IsDistinct (eq_by_cmp cmp) xs → filter p (sort_by cmp xs) ≡ sort_by cmp (filter p xs)
    unfolding IsDistinct
    sort_filter [] apart = refl
    sort_filter (x ∷ xs) apart = go (p x) refl (sort_filter xs apart.1)
      where
        go : (b : Bool) → p x ≡ b → filter p (sort_by cmp xs) ≡ sort_by cmp (filter p xs) → filter p (insert_sorted cmp x (sort_by cmp xs)) ≡ sort_by cmp (cond b (x ∷ filter p xs) (filter p xs))
        go true e more =
            inserted_in x (sort_by cmp xs) e (sort_rises cmp total xs apart.1) (all_sorted cmp (λ y. is_eq (cmp x y) ≡ false) xs apart.0) ∙ ap (insert_sorted cmp x) more
        go false e more = inserted_out x (sort_by cmp xs) e ∙ more
