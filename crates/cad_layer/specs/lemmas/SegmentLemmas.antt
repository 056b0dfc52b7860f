-- Changes in segments are changes in all that they hold, and all versions of an object are in one of them.
use Rattle.std.proofs.Common.{◌≡◌, ◌∙◌, ℕ, ◌<◌, ◌≤◌, Bool, true, false, cond, not, List, [], ◌∷◌, ◌++◌, filter, refl, sym, ap, subst, arith, append-nil, Ordering, Less, Equal, Greater, pos, is_gt}
use Rattle.std.specs.Cmp.{IsTotalOrder}
use Rattle.std.specs.List.{AllByRecursion}
use Rattle.std.specs.List.Sorted.{IsStrictlySortedBy}
use Rattle.std.proofs.lemmas.Bool.{not-true}
use Rattle.std.proofs.lemmas.Bool.Decides.{nat_tests}
use Rattle.std.proofs.lemmas.Int.{ints}
use Rattle.std.proofs.lemmas.List.Elements.{filter-append, filter_passes, recursion_from_All}
use Rattle.std.proofs.lemmas.List.Kept.{IsStrictlySortedBy-filter}
use Rattle.cad_versions.specs.declared.object_id.ObjectId.{ObjectId}
use Rattle.cad_versions.specs.lemmas.ListLemmas.{all_weaker}
use Rattle.cad_versions.specs.Objects.{object_number}
use Rattle.cad_schema.specs.declared.collection.Collection.{Collection}
use Rattle.cad_feature.specs.Features.{Item, by_identifier}
use Rattle.std.specs.Ordering.{int_cmp, ordering_then}
use Rattle.cad_layer.specs.Identifiers.{comes_after, identifier, is_item_of, items_after, of_object}
use Rattle.cad_layer.specs.lemmas.ItemLemmas.{items_total}
use Rattle.cad_layer.specs.Merging.{put, put_at, merged}
use Rattle.cad_layer.specs.lemmas.MergeLemmas.{all_merged, put_behind, put_front}
use Rattle.cad_layer.specs.Segments.{AreSegments, SegmentFeatures, is_from, joined, left_of, own_of, with_in}
use Rattle.cad_layer.specs.Walks.{all_in}

-- ---- two lists, one behind the other

module _ {X : Type 0} (cmp : X → X → Ordering) (total : IsTotalOrder cmp) where
  put_within : (n : X) (xs ys : List X) → AllByRecursion (λ y. cmp n y ≡ Less) ys → put cmp n (xs ++ ys) ≡ put cmp n xs ++ ys
  put_within n [] ys all = put_front cmp n ys all
  put_within n (x ∷ xs) ys all = go (cmp n x) (put_within n xs ys all)
    where
      go : (o : Ordering) → put cmp n (xs ++ ys) ≡ put cmp n xs ++ ys → put_at o n x (xs ++ ys) (put cmp n (xs ++ ys)) ≡ put_at o n x xs (put cmp n xs) ++ ys
      go Less more = refl
      go Equal more = refl
      go Greater more = ap (λ l. x ∷ l) more

  merged_within : (xs ys us : List X) → AllByRecursion (λ u. AllByRecursion (λ x. cmp u x ≡ Greater) xs) us → merged cmp (xs ++ ys) us ≡ xs ++ merged cmp ys us
  merged_within xs ys [] all = refl
  merged_within xs ys (u ∷ us) all = ap (put cmp u) (merged_within xs ys us all.1) ∙ put_behind cmp total u xs (merged cmp ys us) all.0

  merged_apart : (xs ys ts us : List X) → AllByRecursion (λ u. AllByRecursion (λ x. cmp u x ≡ Greater) xs) us → AllByRecursion (λ t. AllByRecursion (λ y. cmp t y ≡ Less) (merged cmp ys us)) ts
      → merged cmp (xs ++ ys) (ts ++ us) ≡ merged cmp xs ts ++ merged cmp ys us
  merged_apart xs ys [] us behind first = merged_within xs ys us behind
  merged_apart xs ys (t ∷ ts) us behind first = ap (put cmp t) (merged_apart xs ys ts us behind first.1) ∙ put_within t (merged cmp xs ts) (merged cmp ys us) first.0

-- ---- filters

module _ {X : Type 0} (p : X → Bool) where
  none_kept : (xs : List X) → AllByRecursion (λ x. p x ≡ false) xs → filter p xs ≡ []
  none_kept [] all = refl
  none_kept (x ∷ xs) all = ap (λ b. cond b (x ∷ filter p xs) (filter p xs)) all.0 ∙ none_kept xs all.1

  each_kept : (xs : List X) → AllByRecursion (λ x. p x ≡ true) xs → filter p xs ≡ xs
  each_kept [] all = refl
  each_kept (x ∷ xs) all = ap (λ b. cond b (x ∷ filter p xs) (filter p xs)) all.0 ∙ ap (λ l. x ∷ l) (each_kept xs all.1)

  pub kept_pass : (xs : List X) → AllByRecursion (λ x. p x ≡ true) (filter p xs)
  kept_pass xs = recursion_from_All (λ x. p x ≡ true) (filter p xs) (filter_passes p xs)

-- ---- by object

module _ (k : ℕ) where
  abbrev IsFrom : Item → Type 0
  IsFrom x = is_from k x ≡ true

  abbrev IsBelow : Item → Type 0
  IsBelow x = is_from k x ≡ false

  abbrev is_below : Item → Bool
  is_below x = not (is_from k x)

  comes_first : (x y : Item) → IsBelow x → IsFrom y → by_identifier x y ≡ Less
  comes_first x y low high = grind (arith, ints, nat_tests)

  comes_last : (x y : Item) → IsBelow x → IsFrom y → by_identifier y x ≡ Greater
  comes_last x y low high = grind (arith, ints, nat_tests)

  still_from : (x y : Item) → by_identifier x y ≡ Less → IsFrom x → IsFrom y
  still_from x y less high = grind (arith, ints, nat_tests)

  pub below_kept : (cs : List Item) → AllByRecursion IsBelow (filter is_below cs)
  below_kept cs = all_weaker (λ x. is_below x ≡ true) IsBelow (λ x h. not-true (is_from k x) h) (filter is_below cs) (kept_pass is_below cs)

  parted : (cs : List Item) → IsStrictlySortedBy by_identifier cs → filter is_below cs ++ filter (is_from k) cs ≡ cs
  unfolding IsStrictlySortedBy
  parted [] up = refl
  parted (c ∷ cs) up = go (is_from k c) refl (parted cs up.1)
    where
      go : (b : Bool) → is_from k c ≡ b → filter is_below cs ++ filter (is_from k) cs ≡ cs → cond (not b) (c ∷ filter is_below cs) (filter is_below cs) ++ cond b (c ∷ filter (is_from k) cs) (filter (is_from k) cs) ≡ c ∷ cs
      go true e more =
          let all : AllByRecursion IsFrom cs = all_weaker (λ d. by_identifier c d ≡ Less) IsFrom (λ d less. still_from c d less e) cs up.0 in
          ap (λ l. l ++ c ∷ filter (is_from k) cs) (none_kept is_below cs (all_weaker IsFrom (λ d. is_below d ≡ false) (λ d h. ap not h) cs all)) ∙ ap (λ l. c ∷ l) (each_kept (is_from k) cs all)
      go false e more = ap (λ l. c ∷ l) more

  -- what lies before the number is merged with the changes before it, and the rest with the rest
  merged_parted : (xs ys cs : List Item) → AllByRecursion IsBelow xs → AllByRecursion IsFrom ys → IsStrictlySortedBy by_identifier cs
      → all_in (xs ++ ys) cs ≡ all_in xs (filter is_below cs) ++ all_in ys (filter (is_from k) cs)
  merged_parted xs ys cs low high up =
      let us = filter (is_from k) cs in
      ap (all_in (xs ++ ys)) (sym (parted cs up))
      ∙ merged_apart by_identifier items_total xs ys (filter is_below cs) us
      (all_weaker IsFrom (λ u. AllByRecursion (λ x. by_identifier u x ≡ Greater) xs) (λ u h. all_weaker IsBelow (λ x. by_identifier u x ≡ Greater) (λ x l. comes_last x u l h) xs low) us (kept_pass (is_from k) cs))
      (all_weaker IsBelow (λ t. AllByRecursion (λ y. by_identifier t y ≡ Less) (all_in ys us)) (λ t l. all_weaker IsFrom (λ y. by_identifier t y ≡ Less) (λ y h. comes_first t y l h) (all_in ys us) (all_merged by_identifier items_total IsFrom ys us high (kept_pass (is_from k) cs))) (filter is_below cs) (below_kept cs))

-- ---- changes

pub joined_with : (s : SegmentFeatures) (ss : List SegmentFeatures) (cs : List Item) → AreSegments (s ∷ ss) → IsStrictlySortedBy by_identifier cs → joined (with_in (s ∷ ss) cs) ≡ all_in (joined (s ∷ ss)) cs
joined_with s [] cs apart up = append-nil (all_in s.features cs) ∙ ap (λ xs. all_in xs cs) (sym (append-nil s.features))
joined_with s (t ∷ ss) cs apart up =
    ap (λ xs. all_in s.features (own_of (t ∷ ss) cs) ++ xs) (joined_with t ss (left_of (t ∷ ss) cs) apart.1 (IsStrictlySortedBy-filter by_identifier (is_from t.start) cs up))
    ∙ sym (merged_parted t.start s.features (joined (t ∷ ss)) cs apart.0.0 apart.0.1 up)

pub segments_with : (s : SegmentFeatures) (ss : List SegmentFeatures) (cs : List Item) → AreSegments (s ∷ ss) → IsStrictlySortedBy by_identifier cs → AreSegments (with_in (s ∷ ss) cs)
segments_with s [] cs apart up = (tt, tt)
segments_with s (t ∷ ss) cs apart up =
    let k = t.start in
    let left = left_of (t ∷ ss) cs in
    let rises = IsStrictlySortedBy-filter by_identifier (is_from k) cs up in (
      (
        all_merged by_identifier items_total (IsBelow k) s.features (own_of (t ∷ ss) cs) apart.0.0 (below_kept k cs),
        subst (AllByRecursion (IsFrom k)) (sym (joined_with t ss left apart.1 rises)) (all_merged by_identifier items_total (IsFrom k) (joined (t ∷ ss)) left apart.0.1 (kept_pass (is_from k) cs)),
      ),
      segments_with t ss left apart.1 rises,
    )

pub collections_with : (c : Collection) (ss : List SegmentFeatures) (cs : List Item) → AllByRecursion (λ (s : SegmentFeatures). s.collection ≡ c) ss → AllByRecursion (λ (s : SegmentFeatures). s.collection ≡ c) (with_in ss cs)
collections_with c [] cs all = tt
collections_with c (s ∷ ss) cs all = (all.0, collections_with c ss (left_of ss cs) all.1)

-- ---- the versions of an object

module _ (object : ObjectId) where
  none_below : (k : ℕ) (xs : List Item) → k ≤ object_number object → AllByRecursion (IsBelow k) xs → of_object object xs ≡ []
  none_below k xs h low = none_kept (is_item_of object) xs (all_weaker (IsBelow k) (λ x. is_item_of object x ≡ false) (λ x l. grind (arith, ints, nat_tests)) xs low)

  none_from : (k : ℕ) (xs : List Item) → object_number object < k → AllByRecursion (IsFrom k) xs → of_object object xs ≡ []
  none_from k xs h high = none_kept (is_item_of object) xs (all_weaker (IsFrom k) (λ x. is_item_of object x ≡ false) (λ x l. grind (arith, ints, nat_tests)) xs high)

  -- if the next segment starts with the object or before it, the first has no feature of it
  pub skipped : (s t : SegmentFeatures) (ss : List SegmentFeatures) → AreSegments (s ∷ t ∷ ss) → t.start ≤ object_number object → of_object object (joined (s ∷ t ∷ ss)) ≡ of_object object (joined (t ∷ ss))
  skipped s t ss apart h =
      filter-append (is_item_of object) s.features (joined (t ∷ ss)) ∙ ap (λ xs. xs ++ of_object object (joined (t ∷ ss))) (none_below t.start s.features h apart.0.0)

  -- if it starts behind the object, the first has all of them
  pub stopped : (s t : SegmentFeatures) (ss : List SegmentFeatures) → AreSegments (s ∷ t ∷ ss) → object_number object < t.start → of_object object (joined (s ∷ t ∷ ss)) ≡ of_object object s.features
  stopped s t ss apart h =
      filter-append (is_item_of object) s.features (joined (t ∷ ss)) ∙ ap (λ xs. of_object object s.features ++ xs) (none_from t.start (joined (t ∷ ss)) h apart.0.1) ∙ append-nil (of_object object s.features)

  -- a version of the object comes after all of them
  none_after : (number k : ℕ) (x : Item) → k ≤ object_number object → IsBelow k x → comes_after (identifier object number) x ≡ false
  none_after number k x h low =
      let less : int_cmp (pos (object_number x.object)) (pos (object_number object)) ≡ Less = grind (arith, ints, nat_tests) in
      ap (λ o. is_gt (ordering_then o (int_cmp (pos x.number) (pos number)))) less

  pub passed : (number : ℕ) (s t : SegmentFeatures) (ss : List SegmentFeatures) → AreSegments (s ∷ t ∷ ss) → t.start ≤ object_number object
      → items_after (identifier object number) (joined (s ∷ t ∷ ss)) ≡ items_after (identifier object number) (joined (t ∷ ss))
  passed number s t ss apart h =
      let after = comes_after (identifier object number) in
      filter-append after s.features (joined (t ∷ ss))
      ∙ ap (λ xs. xs ++ filter after (joined (t ∷ ss))) (none_kept after s.features (all_weaker (IsBelow t.start) (λ x. after x ≡ false) (λ x low. none_after number t.start x h low) s.features apart.0.0))

  pub alone : (s : SegmentFeatures) → of_object object (joined (s ∷ [])) ≡ of_object object s.features
  alone s = ap (of_object object) (append-nil s.features)
