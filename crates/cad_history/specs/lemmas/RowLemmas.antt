-- What rows show after a revision that changed them.
use Rattle.std.proofs.Common.{◌≡◌, ℕ, ◌<◌, ◌≤◌, Bool, true, false, cond, not, ◌&&◌, ◌||◌, nat_le, nat_lt, List, [], ◌∷◌, map, filter, refl, sym, ap, ap₂, ◌∙◌, arith, Less, is_eq, true≢false}
use Rattle.std.specs.List.{AllByRecursion}
use Rattle.std.specs.List.Sorted.{IsStrictlySortedBy}
use Rattle.std.proofs.lemmas.Bool.Decides.{nat_tests}
use Rattle.std.proofs.lemmas.List.Kept.{IsStrictlySortedBy-filter}
use Rattle.cad_versions.specs.lemmas.ListLemmas.{map-map, filter-map, filters_turn, all_weaker, all_filtered, all_mapped}
use Rattle.cad_schema.specs.declared.collection.Collection.{Collection}
use Rattle.cad_feature.specs.Features.{Item, by_identifier}
use Rattle.cad_index.specs.Layers.{LayerFeatures}
use Rattle.cad_layer.specs.Walks.{all_in}
use Rattle.cad_layer.specs.lemmas.ItemLemmas.{items_total}
use Rattle.cad_layer.specs.lemmas.MergeLemmas.{IsNew, all_merged, merged_ascends, merged_merged}
use Rattle.cad_history.specs.inner.Ending.{ended, begun, has_version, replaced_by, is_in_none, absent_in, present_in, with_ended}
use Rattle.cad_history.specs.Rows.{is_shown_at, rows_at, earlier_at, bare, AllAscend, IsOpenRow, IsEndedRow}
use Rattle.cad_history.specs.lemmas.ApartLemmas.{AreApart, has_place, none, parted, filter_apart, outer, no_place, transposed, in_turn, map_merged}

-- ---- tests

below : (m n : ℕ) → m < n → nat_lt m n ≡ true
below m n h = grind (arith, nat_tests)

not_below : (m n : ℕ) → n ≤ m → nat_lt m n ≡ false
not_below m n h = grind (arith, nat_tests)

pub up_to : (m n : ℕ) → m ≤ n → nat_le m n ≡ true
up_to m n h = grind (arith, nat_tests)

above : (m n : ℕ) → n < m → nat_le m n ≡ false
above m n h = grind (arith, nat_tests)

and_false : (b : Bool) → (b && false) ≡ false
and_false true = refl
and_false false = refl

-- a row that has ended, and one that has begun and has no end
pub hidden : (r : ℕ) (x : Item) → x.period.end ≤ r → is_shown_at r x ≡ false
hidden r x e = ap (λ b. nat_le x.period.start r && b) (not_below r x.period.end e) ∙ and_false (nat_le x.period.start r)

pub open_shown : (r : ℕ) → r < 4294967295 → (x : Item) → x.period.start ≤ r → x.period.end ≡ 4294967295 → is_shown_at r x ≡ true
open_shown r within x s e = ap₂ ◌&&◌ (up_to x.period.start r s) (ap (nat_lt r) e ∙ below r 4294967295 within)

pub split_test : (a b : Bool) → cond a false b ≡ true → (a ≡ false) × (b ≡ true)
split_test true b e = absurd (true≢false (sym e))
split_test false b e = (refl, e)

-- ---- filters

module _ {X : Type 0} (p q : X → Bool) where
  same_where : (xs : List X) → AllByRecursion (λ x. p x ≡ q x) xs → filter p xs ≡ filter q xs
  same_where [] all = refl
  same_where (x ∷ xs) all = ap₂ (λ b zs. cond b (x ∷ zs) zs) all.0 (same_where xs all.1)

module _ {X : Type 0} (p : X → Bool) where
  pub all_pass : (xs : List X) → AllByRecursion (λ x. p x ≡ true) xs → filter p xs ≡ xs
  all_pass [] all = refl
  all_pass (x ∷ xs) all = ap₂ (λ b zs. cond b (x ∷ zs) zs) all.0 (all_pass xs all.1)

  pub none_passes : (xs : List X) → AllByRecursion (λ x. p x ≡ false) xs → filter p xs ≡ []
  none_passes [] all = refl
  none_passes (x ∷ xs) all = ap (λ b. cond b (x ∷ filter p xs) (filter p xs)) all.0 ∙ none_passes xs all.1

  pub each_kept : (P : X → Type 0) → ((x : X) → p x ≡ true → P x) → (xs : List X) → AllByRecursion P (filter p xs)
  each_kept P holds [] = tt
  each_kept P holds (x ∷ xs) = go (p x) refl (each_kept P holds xs)
    where
      go : (b : Bool) → p x ≡ b → AllByRecursion P (filter p xs) → AllByRecursion P (cond b (x ∷ filter p xs) (filter p xs))
      go true e more = (holds x e, more)
      go false e more = more

  pub each_left : (P : X → Type 0) → ((x : X) → p x ≡ false → P x) → (xs : List X) → AllByRecursion P (filter (λ x. not (p x)) xs)
  each_left P holds [] = tt
  each_left P holds (x ∷ xs) = go (p x) refl (each_left P holds xs)
    where
      go : (b : Bool) → p x ≡ b → AllByRecursion P (filter (λ y. not (p y)) xs) → AllByRecursion P (cond (not b) (x ∷ filter (λ y. not (p y)) xs) (filter (λ y. not (p y)) xs))
      go true e more = more
      go false e more = (holds x e, more)

-- ---- lists of earlier rows

module _ (r : ℕ) where
  rows_ascend : (xs : List Item) → IsStrictlySortedBy by_identifier xs → IsStrictlySortedBy by_identifier (rows_at r xs)
  rows_ascend xs up = IsStrictlySortedBy-filter by_identifier (is_shown_at r) xs up

  pub earlier_ascends : (layers : List LayerFeatures) → AllAscend layers → IsStrictlySortedBy by_identifier (earlier_at r layers)
  unfolding IsStrictlySortedBy
  earlier_ascends [] all = tt
  earlier_ascends (layer ∷ layers) all = merged_ascends by_identifier items_total (rows_at r layer.features) (earlier_at r layers) (rows_ascend layer.features all.0)

  earlier_new : (layers : List LayerFeatures) (x : Item) → is_in_none layers x ≡ true → IsNew by_identifier x (earlier_at r layers)
  earlier_new [] x e = tt
  earlier_new (layer ∷ layers) x e =
      let parts = split_test (has_version x layer.features) (is_in_none layers x) e in
      let Other : Item → Type 0 = λ y. is_eq (by_identifier x y) ≡ false in
      all_merged by_identifier items_total Other (rows_at r layer.features) (earlier_at r layers)
      (all_filtered Other (is_shown_at r) layer.features (no_place by_identifier items_total layer.features x parts.0))
      (earlier_new layers x parts.1)

  both_parts : (q : Item → Bool) (xs : List Item) → IsStrictlySortedBy by_identifier xs
      → all_in (rows_at r (filter q xs)) (rows_at r (filter (λ x. not (q x)) xs)) ≡ rows_at r xs
  both_parts q xs up =
      ap₂ all_in (filters_turn (is_shown_at r) q xs) (filters_turn (is_shown_at r) (λ x. not (q x)) xs)
      ∙ parted by_identifier items_total q (rows_at r xs) (rows_ascend xs up)

  -- the rows that are put into the lists are shown beside the others
  pub earlier_with : (c : Collection) (layers : List LayerFeatures) (xs : List Item) → AllAscend layers → IsStrictlySortedBy by_identifier xs
      → earlier_at r (with_ended c layers xs) ≡ all_in (earlier_at r layers) (rows_at r xs)
  earlier_with c [] [] all up = refl
  earlier_with c [] (x ∷ xs) all up = sym (none by_identifier items_total (rows_at r (x ∷ xs)) (rows_ascend (x ∷ xs) up))
  earlier_with c (layer ∷ layers) xs all up =
      let q = is_in_none (layer ∷ layers) in
      let absent = absent_in (layer ∷ layers) xs in
      let present = present_in (layer ∷ layers) xs in
      let absent_up = IsStrictlySortedBy-filter by_identifier q xs up in
      let present_up = IsStrictlySortedBy-filter by_identifier (λ x. not (q x)) xs up in
      let earlier = earlier_at r layers in
      let own_new = each_kept q (λ x. IsNew by_identifier x layer.features)
      (λ x e. no_place by_identifier items_total layer.features x (split_test (has_version x layer.features) (is_in_none layers x) e).0) xs in
      let others_new = each_kept q (λ x. IsNew by_identifier x earlier)
      (λ x e. earlier_new layers x (split_test (has_version x layer.features) (is_in_none layers x) e).1) xs in
      ap₂ all_in (filter_apart by_identifier items_total (is_shown_at r) layer.features absent own_new all.0 absent_up) (earlier_with c layers present all.1 present_up)
      ∙ in_turn by_identifier items_total (rows_at r layer.features) (rows_at r absent) earlier (rows_at r present)
      (all_filtered (λ x. IsNew by_identifier x earlier) (is_shown_at r) absent others_new) (earlier_ascends layers all.1) (rows_ascend absent absent_up)
      ∙ ap (all_in (all_in (rows_at r layer.features) earlier)) (both_parts q xs up)

-- ---- after a revision

module _ (revision last : ℕ) (few : revision < 4294967295) (newest touched : List Item) (up : IsStrictlySortedBy by_identifier newest) (rising : IsStrictlySortedBy by_identifier touched)
    (opened : AllByRecursion (IsOpenRow last) newest) where
  abbrev is_replaced : Item → Bool
  is_replaced x = has_version x touched

  abbrev replaced : List Item
  replaced = replaced_by touched newest

  abbrev begun_rows : List Item
  begun_rows = map (begun revision) touched

  pub begun_ascend : (xs : List Item) → IsStrictlySortedBy by_identifier xs → IsStrictlySortedBy by_identifier (map (begun revision) xs)
  unfolding IsStrictlySortedBy
  begun_ascend [] all = tt
  begun_ascend (x ∷ xs) all = (all_mapped (λ y. by_identifier x y ≡ Less) (begun revision) xs all.0, begun_ascend xs all.1)

  pub ended_ascend : (xs : List Item) → IsStrictlySortedBy by_identifier xs → IsStrictlySortedBy by_identifier (map (ended revision) xs)
  unfolding IsStrictlySortedBy
  ended_ascend [] all = tt
  ended_ascend (x ∷ xs) all = (all_mapped (λ y. by_identifier x y ≡ Less) (ended revision) xs all.0, ended_ascend xs all.1)

  begun_places : (xs : List Item) (x : Item) → has_place by_identifier items_total (map (begun revision) xs) x ≡ has_version x xs
  begun_places [] x = refl
  begun_places (y ∷ ys) x = ap (λ b. is_eq (by_identifier y x) || b) (begun_places ys x)

  -- the newest rows that no feature replaces
  abbrev pub others : List Item
  others = filter (λ x. not (is_replaced x)) newest

  pub others_ascend : IsStrictlySortedBy by_identifier others
  others_ascend = IsStrictlySortedBy-filter by_identifier (λ x. not (is_replaced x)) newest up

  pub newest_next : all_in newest begun_rows ≡ all_in others begun_rows
  newest_next =
      outer by_identifier items_total newest begun_rows up (begun_ascend touched rising)
      ∙ ap (λ xs. all_in xs begun_rows) (same_where (λ x. not (has_place by_identifier items_total begun_rows x)) (λ x. not (is_replaced x)) newest (everywhere newest))
    where
      everywhere : (xs : List Item) → AllByRecursion (λ x. not (has_place by_identifier items_total begun_rows x) ≡ not (is_replaced x)) xs
      everywhere [] = tt
      everywhere (x ∷ xs) = (ap not (begun_places touched x), everywhere xs)

  pub begun_apart : AreApart by_identifier items_total others begun_rows
  begun_apart = transposed by_identifier items_total begun_rows others
      (each_left is_replaced (λ x. has_place by_identifier items_total begun_rows x ≡ false) (λ x e. begun_places touched x ∙ e) newest)

  abbrev pub ended_rows : List Item
  ended_rows = map (ended revision) replaced

  module _ (r : ℕ) where
    -- ---- before it

    module _ (sooner : r < revision) where
      begun_hidden : (xs : List Item) → AllByRecursion (λ x. is_shown_at r x ≡ false) (map (begun revision) xs)
      begun_hidden [] = tt
      begun_hidden (x ∷ xs) = (ap (λ b. b && nat_lt r 4294967295) (above revision r sooner), begun_hidden xs)

      ended_alike : (x : Item) → IsOpenRow last x → is_shown_at r (ended revision x) ≡ is_shown_at r x
      ended_alike x row = ap (λ b. nat_le x.period.start r && b) (below r revision sooner ∙ sym (ap (nat_lt r) row.endless ∙ below r 4294967295 (omega (arith, sooner, few))))

      ended_shown : rows_at r ended_rows ≡ map (ended revision) (rows_at r replaced)
      ended_shown =
          filter-map (is_shown_at r) (ended revision) replaced
          ∙ ap (map (ended revision)) (same_where (λ x. is_shown_at r (ended revision x)) (is_shown_at r) replaced
          (all_weaker (IsOpenRow last) (λ x. is_shown_at r (ended revision x) ≡ is_shown_at r x) ended_alike replaced (all_filtered (IsOpenRow last) is_replaced newest opened)))

      ended_bare : map bare (rows_at r ended_rows) ≡ map bare (filter is_replaced (rows_at r newest))
      ended_bare =
          ap (map bare) ended_shown ∙ map-map bare (ended revision) (rows_at r replaced)
          ∙ ap (map bare) (filters_turn (is_shown_at r) is_replaced newest)

      newest_shown : rows_at r (all_in newest begun_rows) ≡ filter (λ x. not (is_replaced x)) (rows_at r newest)
      newest_shown =
          ap (rows_at r) newest_next
          ∙ filter_apart by_identifier items_total (is_shown_at r) others begun_rows begun_apart others_ascend (begun_ascend touched rising)
          ∙ ap (all_in (rows_at r others)) (none_passes (is_shown_at r) begun_rows (begun_hidden touched))
          ∙ filters_turn (is_shown_at r) (λ x. not (is_replaced x)) newest

      -- what is shown at a revision before it stays
      pub shown_before : (c : Collection) (layers : List LayerFeatures) → AllAscend layers
          → map bare (all_in (earlier_at r (with_ended c layers ended_rows)) (rows_at r (all_in newest begun_rows))) ≡ map bare (all_in (earlier_at r layers) (rows_at r newest))
      shown_before c layers all =
          let earlier = earlier_at r layers in
          let shown = rows_at r newest in
          let ended_up = ended_ascend replaced (IsStrictlySortedBy-filter by_identifier is_replaced newest up) in
          ap₂ (λ xs ys. map bare (all_in xs ys)) (earlier_with r c layers ended_rows all ended_up) newest_shown
          ∙ bares (all_in earlier (rows_at r ended_rows)) (filter (λ x. not (is_replaced x)) shown)
          ∙ ap (λ xs. all_in xs (map bare (filter (λ x. not (is_replaced x)) shown))) (bares earlier (rows_at r ended_rows) ∙ ap (all_in (map bare earlier)) ended_bare)
          ∙ sym (merged_merged by_identifier items_total (map bare earlier) (map bare (filter is_replaced shown)) (map bare (filter (λ x. not (is_replaced x)) shown)))
          ∙ ap (all_in (map bare earlier)) (sym (bares (filter is_replaced shown) (filter (λ x. not (is_replaced x)) shown)) ∙ ap (map bare) (parted by_identifier items_total is_replaced shown (IsStrictlySortedBy-filter by_identifier (is_shown_at r) newest up)))
          ∙ sym (bares earlier shown)
        where
          bares : (xs ys : List Item) → map bare (all_in xs ys) ≡ all_in (map bare xs) (map bare ys)
          bares = map_merged by_identifier by_identifier bare (λ a b. refl)

    -- ---- from it on

    module _ (later : revision ≤ r) (within : r < 4294967295) (is_last : last < revision) where
      ended_hidden : (layers : List LayerFeatures) → AllByRecursion (λ (layer : LayerFeatures). AllByRecursion (IsEndedRow last) layer.features) layers → earlier_at r layers ≡ []
      ended_hidden [] all = refl
      ended_hidden (layer ∷ layers) all =
          ap₂ all_in
          (none_passes (is_shown_at r) layer.features (all_weaker (IsEndedRow last) (λ x. is_shown_at r x ≡ false) (λ x e. hidden r x (omega (arith, e, is_last, later))) layer.features all.0))
          (ended_hidden layers all.1)

      all_ended_hidden : (xs : List Item) → AllByRecursion (λ x. is_shown_at r x ≡ false) (map (ended revision) xs)
      all_ended_hidden [] = tt
      all_ended_hidden (x ∷ xs) = (hidden r (ended revision x) later, all_ended_hidden xs)

      begun_shown : (xs : List Item) → AllByRecursion (λ x. is_shown_at r x ≡ true) (map (begun revision) xs)
      begun_shown [] = tt
      begun_shown (x ∷ xs) = (open_shown r within (begun revision x) later refl, begun_shown xs)

      all_shown : rows_at r (all_in newest begun_rows) ≡ all_in newest begun_rows
      all_shown = all_pass (is_shown_at r) (all_in newest begun_rows)
          (all_merged by_identifier items_total (λ x. is_shown_at r x ≡ true) newest begun_rows
          (all_weaker (IsOpenRow last) (λ x. is_shown_at r x ≡ true) (λ x row. open_shown r within x (omega (arith, row.begun, is_last, later)) row.endless) newest opened)
          (begun_shown touched))

      pub shown_after : (c : Collection) (layers : List LayerFeatures) → AllAscend layers → AllByRecursion (λ (layer : LayerFeatures). AllByRecursion (IsEndedRow last) layer.features) layers
          → map bare (all_in (earlier_at r (with_ended c layers ended_rows)) (rows_at r (all_in newest begun_rows))) ≡ all_in (map bare newest) (map bare touched)
      shown_after c layers all ends =
          let ended_up = ended_ascend replaced (IsStrictlySortedBy-filter by_identifier is_replaced newest up) in
          ap₂ (λ xs ys. map bare (all_in xs ys))
          (earlier_with r c layers ended_rows all ended_up ∙ ap₂ all_in (ended_hidden layers ends) (none_passes (is_shown_at r) ended_rows (all_ended_hidden replaced)))
          all_shown
          ∙ ap (map bare) (none by_identifier items_total (all_in newest begun_rows) (merged_ascends by_identifier items_total newest begun_rows up))
          ∙ map_merged by_identifier by_identifier bare (λ a b. refl) newest begun_rows
          ∙ ap (all_in (map bare newest)) (map-map bare (begun revision) touched)
