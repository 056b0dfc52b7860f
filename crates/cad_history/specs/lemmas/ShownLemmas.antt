-- At a revision each version has at most one row, so what passes a test is found and counted list by list.
use Rattle.std.proofs.Common.{◌≡◌, ℕ, zero, suc, ◌+◌, ◌<◌, ◌≤◌, Bool, true, false, cond, if◌then◌else◌, ◌&&◌, nat_le, nat_lt, List, [], ◌∷◌, filter, refl, sym, ap, ◌∙◌, arith, Ordering, Less, Equal, Greater, is_eq, true≢false}
use Rattle.std.specs.List.{AllByRecursion}
use Rattle.std.specs.List.Sorted.{IsStrictlySortedBy}
use Rattle.std.proofs.lemmas.Bool.Decides.{nat_tests}
use Rattle.std.proofs.lemmas.List.Kept.{IsStrictlySortedBy-filter}
use Rattle.cad_feature.specs.Features.{Item, by_identifier}
use Rattle.cad_index.specs.Layers.{LayerFeatures}
use Rattle.cad_layer.specs.Merging.{put, put_at}
use Rattle.cad_layer.specs.Walks.{all_in}
use Rattle.cad_layer.specs.lemmas.ItemLemmas.{items_total}
use Rattle.cad_layer.specs.lemmas.MergeLemmas.{IsNew, all_merged}
use Rattle.cad_lookup.specs.Ways.{how_many}
use Rattle.cad_history.specs.Rows.{AllAscend, is_shown_at, rows_at, earlier_at, EndsFirst, ComeBefore, AllComeBefore}
use Rattle.cad_history.specs.lemmas.ApartLemmas.{AreApart, other_way, filter_apart}
use Rattle.cad_history.specs.lemmas.RowLemmas.{earlier_ascends}

-- ---- elements of lists

pub kept_with : {X : Type 0} (P Q : X → Type 0) (p : X → Bool) → ((x : X) → P x → p x ≡ true → Q x) → (xs : List X) → AllByRecursion P xs → AllByRecursion Q (filter p xs)
kept_with P Q p holds [] all = tt
kept_with P Q p holds (x ∷ xs) all = go (p x) refl (kept_with P Q p holds xs all.1)
  where
    go : (b : Bool) → p x ≡ b → AllByRecursion Q (filter p xs) → AllByRecursion Q (cond b (x ∷ filter p xs) (filter p xs))
    go true e more = (holds x all.0 e, more)
    go false e more = more

both_hold : {X : Type 0} (P Q R : X → Type 0) → ((x : X) → P x → Q x → R x) → (xs : List X) → AllByRecursion P xs → AllByRecursion Q xs → AllByRecursion R xs
both_hold P Q R holds [] a b = tt
both_hold P Q R holds (x ∷ xs) a b = (holds x a.0 b.0, both_hold P Q R holds xs a.1 b.1)

both_true : (a b : Bool) → (a && b) ≡ true → (a ≡ true) × (b ≡ true)
both_true true b e = (refl, e)
both_true false b e = absurd (true≢false (sym e))

pub starts : (m n : ℕ) → nat_le m n ≡ true → m ≤ n
starts m n e = grind (arith, nat_tests)

ends : (m n : ℕ) → nat_lt m n ≡ true → m < n
ends m n e = grind (arith, nat_tests)

-- ---- one row of a version

module _ (r : ℕ) where
  two_rows : (x y : Item) → EndsFirst x y → is_shown_at r y ≡ true → is_shown_at r x ≡ true → is_eq (by_identifier y x) ≡ false
  two_rows x y first later sooner = go (is_eq (by_identifier x y)) refl
    where
      go : (b : Bool) → is_eq (by_identifier x y) ≡ b → is_eq (by_identifier y x) ≡ false
      go true e =
          let begins = starts y.period.start r (both_true (nat_le y.period.start r) (nat_lt r y.period.end) later).0 in
          let is_over = ends r x.period.end (both_true (nat_le x.period.start r) (nat_lt r x.period.end) sooner).1 in
          absurd (omega (arith, begins, is_over, first e))
      go false e = other_way by_identifier items_total x y e

  shown_apart : (xs ys : List Item) → ComeBefore xs ys → AreApart by_identifier items_total (rows_at r xs) (rows_at r ys)
  shown_apart xs ys all =
      kept_with (λ y. AllByRecursion (λ x. EndsFirst x y) xs) (λ y. IsNew by_identifier y (rows_at r xs)) (is_shown_at r)
      (λ y first later. kept_with (λ x. EndsFirst x y) (λ x. is_eq (by_identifier y x) ≡ false) (is_shown_at r) (λ x e sooner. two_rows x y e later sooner) xs first) ys all

  lists_apart : (xs : List Item) (layers : List LayerFeatures) → AllByRecursion (λ (later : LayerFeatures). ComeBefore xs later.features) layers → AreApart by_identifier items_total (rows_at r xs) (earlier_at r layers)
  lists_apart xs [] all = tt
  lists_apart xs (layer ∷ layers) all =
      all_merged by_identifier items_total (λ y. IsNew by_identifier y (rows_at r xs)) (rows_at r layer.features) (earlier_at r layers) (shown_apart xs layer.features all.0) (lists_apart xs layers all.1)

  pub newest_apart : (layers : List LayerFeatures) (newest : List Item) → AllComeBefore layers newest → AreApart by_identifier items_total (earlier_at r layers) (rows_at r newest)
  newest_apart [] newest turns = all_new (rows_at r newest)
    where
      all_new : (ys : List Item) → AreApart by_identifier items_total [] ys
      all_new [] = tt
      all_new (y ∷ ys) = (tt, all_new ys)
  newest_apart (layer ∷ layers) newest turns =
      both_hold (λ y. IsNew by_identifier y (rows_at r layer.features)) (λ y. IsNew by_identifier y (earlier_at r layers)) (λ y. IsNew by_identifier y (earlier_at r (layer ∷ layers)))
      (λ y a b. all_merged by_identifier items_total (λ x. is_eq (by_identifier y x) ≡ false) (rows_at r layer.features) (earlier_at r layers) a b)
      (rows_at r newest) (shown_apart layer.features newest turns.0) (newest_apart layers newest turns.2)

  -- ---- what passes

  module _ (p : Item → Bool) where
    -- the rows that pass, list by list
    abbrev pub passing_at : List LayerFeatures → List Item
    passing_at [] = []
    passing_at (layer ∷ layers) = all_in (filter p (rows_at r layer.features)) (passing_at layers)

    earlier_passing : (layers : List LayerFeatures) (newest : List Item) → AllAscend layers → AllComeBefore layers newest → filter p (earlier_at r layers) ≡ passing_at layers
    earlier_passing [] newest all turns = refl
    earlier_passing (layer ∷ layers) newest all turns =
        filter_apart by_identifier items_total p (rows_at r layer.features) (earlier_at r layers) (lists_apart layer.features layers turns.1)
        (IsStrictlySortedBy-filter by_identifier (is_shown_at r) layer.features all.0) (earlier_ascends r layers all.1)
        ∙ ap (all_in (filter p (rows_at r layer.features))) (earlier_passing layers newest all.1 turns.2)

    pub features_passing : (layers : List LayerFeatures) (newest : List Item) → AllAscend layers → IsStrictlySortedBy by_identifier newest → AllComeBefore layers newest
        → filter p (all_in (earlier_at r layers) (rows_at r newest)) ≡ all_in (passing_at layers) (filter p (rows_at r newest))
    features_passing layers newest all up turns =
        filter_apart by_identifier items_total p (earlier_at r layers) (rows_at r newest) (newest_apart layers newest turns)
        (earlier_ascends r layers all) (IsStrictlySortedBy-filter by_identifier (is_shown_at r) newest up)
        ∙ ap (λ xs. all_in xs (filter p (rows_at r newest))) (earlier_passing layers newest all turns)

    -- ---- how many

    one : (x : Item) (xs : List Item) → how_many p (x ∷ xs) ≡ how_many p (x ∷ []) + how_many p xs
    one x xs = go (p x) (how_many p xs)
      where
        go : (b : Bool) (n : ℕ) → (if b then (suc n) else n) ≡ (if b then (suc zero) else zero) + n
        go true n = omega arith
        go false n = omega arith

    put_counted : (c : Item) (ys : List Item) → IsNew by_identifier c ys → how_many p (put by_identifier c ys) ≡ how_many p ys + how_many p (c ∷ [])
    put_counted c [] new = omega arith
    put_counted c (y ∷ ys) new = go (by_identifier c y) refl (put_counted c ys new.1)
      where
        go : (o : Ordering) → by_identifier c y ≡ o → how_many p (put by_identifier c ys) ≡ how_many p ys + how_many p (c ∷ []) → how_many p (put_at o c y ys (put by_identifier c ys)) ≡ how_many p (y ∷ ys) + how_many p (c ∷ [])
        go Less e more = omega (arith, one c (y ∷ ys))
        go Equal e more = absurd (true≢false (sym (ap is_eq e) ∙ new.0))
        go Greater e more = omega (arith, one y (put by_identifier c ys), one y ys, more)

    apart_counted : (xs cs : List Item) → AreApart by_identifier items_total xs cs → IsStrictlySortedBy by_identifier cs → how_many p (all_in xs cs) ≡ how_many p xs + how_many p cs
    unfolding IsStrictlySortedBy
    apart_counted xs [] apart up = omega arith
    apart_counted xs (c ∷ cs) apart up =
        let Other : Item → Type 0 = λ y. is_eq (by_identifier c y) ≡ false in
        let fresh = all_merged by_identifier items_total Other xs cs apart.0 (all_other c cs up.0) in
        omega (arith, put_counted c (all_in xs cs) fresh, apart_counted xs cs apart.1 up.1, one c cs)
      where
        all_other : (x : Item) (ys : List Item) → AllByRecursion (λ y. by_identifier x y ≡ Less) ys → AllByRecursion (λ y. is_eq (by_identifier x y) ≡ false) ys
        all_other x [] all = tt
        all_other x (y ∷ ys) all = (ap is_eq all.0, all_other x ys all.1)

    abbrev pub earlier_count : List LayerFeatures → ℕ
    earlier_count [] = 0
    earlier_count (layer ∷ layers) = how_many p (rows_at r layer.features) + earlier_count layers

    earlier_counted : (layers : List LayerFeatures) (newest : List Item) → AllAscend layers → AllComeBefore layers newest → how_many p (earlier_at r layers) ≡ earlier_count layers
    earlier_counted [] newest all turns = refl
    earlier_counted (layer ∷ layers) newest all turns =
        apart_counted (rows_at r layer.features) (earlier_at r layers) (lists_apart layer.features layers turns.1) (earlier_ascends r layers all.1)
        ∙ ap (λ n. how_many p (rows_at r layer.features) + n) (earlier_counted layers newest all.1 turns.2)

    pub features_counted : (layers : List LayerFeatures) (newest : List Item) → AllAscend layers → IsStrictlySortedBy by_identifier newest → AllComeBefore layers newest
        → how_many p (all_in (earlier_at r layers) (rows_at r newest)) ≡ earlier_count layers + how_many p (rows_at r newest)
    features_counted layers newest all up turns =
        apart_counted (earlier_at r layers) (rows_at r newest) (newest_apart layers newest turns) (IsStrictlySortedBy-filter by_identifier (is_shown_at r) newest up)
        ∙ ap (λ n. n + how_many p (rows_at r newest)) (earlier_counted layers newest all turns)
