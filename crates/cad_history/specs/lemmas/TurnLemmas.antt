-- After a revision, too, each row ends before the next one of its version begins.
use Rattle.std.proofs.Common.{◌≡◌, ℕ, ◌<◌, ◌≤◌, Bool, true, false, not, if◌then◌else◌, List, [], ◌∷◌, map, filter, refl, sym, ◌∙◌, subst, arith, true≢false}
use Rattle.std.specs.List.{AllByRecursion}
use Rattle.std.specs.List.Sorted.{IsStrictlySortedBy}
use Rattle.cad_versions.specs.lemmas.ListLemmas.{all_weaker, all_filtered, all_mapped}
use Rattle.cad_schema.specs.declared.collection.Collection.{Collection}
use Rattle.cad_feature.specs.Features.{Item, by_identifier}
use Rattle.cad_index.specs.Layers.{LayerFeatures}
use Rattle.cad_layer.specs.Walks.{all_in}
use Rattle.cad_layer.specs.lemmas.ItemLemmas.{items_total}
use Rattle.cad_layer.specs.lemmas.MergeLemmas.{all_merged}
use Rattle.cad_history.specs.inner.Ending.{ended, begun, has_version, replaced_by, is_in_none, absent_in, present_in, with_ended}
use Rattle.cad_history.specs.Rows.{IsOpenRow, IsEndedRow, is_version, EndsFirst, ComeBefore, AllComeBefore}
use Rattle.cad_history.specs.lemmas.ApartLemmas.{no_place, same_place}
use Rattle.cad_history.specs.lemmas.RowLemmas.{split_test, each_kept, each_left, newest_next}

flipped : {X Y : Type 0} (R : X → Y → Type 0) (xs : List X) (ys : List Y) → AllByRecursion (λ x. AllByRecursion (λ y. R x y) ys) xs → AllByRecursion (λ y. AllByRecursion (λ x. R x y) xs) ys
flipped R xs [] all = tt
flipped R xs (y ∷ ys) all = (
  all_weaker (λ x. AllByRecursion (λ z. R x z) (y ∷ ys)) (λ x. R x y) (λ x a. a.0) xs all,
  flipped R xs ys (all_weaker (λ x. AllByRecursion (λ z. R x z) (y ∷ ys)) (λ x. AllByRecursion (λ z. R x z) ys) (λ x a. a.1) xs all),
)

-- rows of two versions
of_two : (x y : Item) → is_version x y ≡ false → EndsFirst x y
of_two x y e h = absurd (true≢false (sym h ∙ e))

both_before : (xs zs ys : List Item) → ComeBefore xs ys → ComeBefore zs ys → ComeBefore (all_in xs zs) ys
both_before xs zs [] a b = tt
both_before xs zs (y ∷ ys) a b = (all_merged by_identifier items_total (λ x. EndsFirst x y) xs zs a.0 b.0, both_before xs zs ys a.1 b.1)

some_before : (q : Item → Bool) (xs ys : List Item) → ComeBefore xs ys → ComeBefore (filter q xs) ys
some_before q xs ys all = all_weaker (λ y. AllByRecursion (λ x. EndsFirst x y) xs) (λ y. AllByRecursion (λ x. EndsFirst x y) (filter q xs)) (λ y a. all_filtered (λ x. EndsFirst x y) q xs a) ys all

before_some : (q : Item → Bool) (xs ys : List Item) → ComeBefore xs ys → ComeBefore xs (filter q ys)
before_some q xs ys all = all_filtered (λ y. AllByRecursion (λ x. EndsFirst x y) xs) q ys all

-- what holds of all rows of the lists and of these rows holds of the lists with them
pub each_list : (Q : Item → Type 0) (c : Collection) (layers : List LayerFeatures) (xs : List Item) → AllByRecursion (λ (layer : LayerFeatures). AllByRecursion Q layer.features) layers → AllByRecursion Q xs
    → AllByRecursion (λ (layer : LayerFeatures). AllByRecursion Q layer.features) (with_ended c layers xs)
each_list Q c [] [] all some = tt
each_list Q c [] (x ∷ xs) all some = (some, tt)
each_list Q c (layer ∷ layers) xs all some = (
  all_merged by_identifier items_total Q layer.features (absent_in (layer ∷ layers) xs) all.0 (all_filtered Q (is_in_none (layer ∷ layers)) xs some),
  each_list Q c layers (present_in (layer ∷ layers) xs) all.1 (all_filtered Q (λ x. not (is_in_none (layer ∷ layers) x)) xs some),
)

absent_before : (layers : List LayerFeatures) (xs : List Item) → AllByRecursion (λ x. is_in_none layers x ≡ true) xs → AllByRecursion (λ (layer : LayerFeatures). ComeBefore xs layer.features) layers
absent_before [] xs all = tt
absent_before (layer ∷ layers) xs all =
    let parts = λ (x : Item) (e : is_in_none (layer ∷ layers) x ≡ true). split_test (has_version x layer.features) (is_in_none layers x) e in (
      flipped EndsFirst xs layer.features (all_weaker (λ x. is_in_none (layer ∷ layers) x ≡ true) (λ x. AllByRecursion (λ y. EndsFirst x y) layer.features)
          (λ x e. all_weaker (λ y. is_version x y ≡ false) (λ y. EndsFirst x y) (of_two x) layer.features (no_place by_identifier items_total layer.features x (parts x e).0)) xs all),
      absent_before layers xs (all_weaker (λ x. is_in_none (layer ∷ layers) x ≡ true) (λ x. is_in_none layers x ≡ true) (λ x e. (parts x e).1) xs all),
    )

same_lists : (layers : List LayerFeatures) (x y : Item) → is_version x y ≡ true → is_in_none layers y ≡ is_in_none layers x
same_lists [] x y e = refl
same_lists (layer ∷ layers) x y e = go (has_version y layer.features) (has_version x layer.features) (same_place by_identifier items_total y x layer.features e) (same_lists layers x y e)
  where
    go : (a b : Bool) → a ≡ b → is_in_none layers y ≡ is_in_none layers x → (if a then false else is_in_none layers y) ≡ (if b then false else is_in_none layers x)
    go a b same more = rw (same, more) refl

-- the lists with these rows come one before the other, and before the newest rows
pub turns_with : (c : Collection) (layers : List LayerFeatures) (xs old newest : List Item) → AllComeBefore layers old
    → AllByRecursion (λ (layer : LayerFeatures). ComeBefore layer.features newest) layers → AllByRecursion (λ (layer : LayerFeatures). ComeBefore layer.features xs) layers → ComeBefore xs newest
    → AllComeBefore (with_ended c layers xs) newest
turns_with c [] [] old newest turns first between last = tt
turns_with c [] (x ∷ xs) old newest turns first between last = (last, tt, tt)
turns_with c (layer ∷ layers) xs old newest turns first between last =
    let q = is_in_none (layer ∷ layers) in
    let absent = absent_in (layer ∷ layers) xs in
    let present = present_in (layer ∷ layers) xs in
    let none_has = all_weaker (λ x. q x ≡ true) (λ x. is_in_none layers x ≡ true) (λ x e. (split_test (has_version x layer.features) (is_in_none layers x) e).1) absent (each_kept q (λ x. q x ≡ true) (λ x e. e) xs) in
    let apart = each_left q (λ y. AllByRecursion (λ x. EndsFirst x y) absent)
    (λ y e. each_kept q (λ x. EndsFirst x y) (λ x k h. absurd (true≢false (sym k ∙ sym (same_lists (layer ∷ layers) x y h) ∙ e))) xs) xs in (
      both_before layer.features absent newest first.0 (some_before q xs newest last),
      each_list (λ y. AllByRecursion (λ x. EndsFirst x y) (all_in layer.features absent)) c layers present
          (all_both layer.features absent layers turns.1 (absent_before layers absent none_has))
          (both_before layer.features absent present (before_some (λ x. not (q x)) layer.features xs between.0) apart),
      turns_with c layers present old newest turns.2 first.1
          (all_weaker (λ (later : LayerFeatures). ComeBefore later.features xs) (λ (later : LayerFeatures). ComeBefore later.features present) (λ later a. before_some (λ x. not (q x)) later.features xs a) layers between.1)
          (some_before (λ x. not (q x)) xs newest last),
    )
  where
    all_both : (xs zs : List Item) (ms : List LayerFeatures) → AllByRecursion (λ (m : LayerFeatures). ComeBefore xs m.features) ms → AllByRecursion (λ (m : LayerFeatures). ComeBefore zs m.features) ms
        → AllByRecursion (λ (m : LayerFeatures). ComeBefore (all_in xs zs) m.features) ms
    all_both xs zs [] a b = tt
    all_both xs zs (m ∷ ms) a b = (both_before xs zs m.features a.0 b.0, all_both xs zs ms a.1 b.1)

-- ---- after a revision

module _ (revision last : ℕ) (few : revision < 4294967295) (newest touched : List Item) (up : IsStrictlySortedBy by_identifier newest) (rising : IsStrictlySortedBy by_identifier touched)
    (opened : AllByRecursion (IsOpenRow last) newest) (sooner : last < revision) where
  abbrev ended_rows : List Item
  ended_rows = map (ended revision) (replaced_by touched newest)

  abbrev begun_rows : List Item
  begun_rows = map (begun revision) touched

  before_begun : (xs : List Item) → AllByRecursion (λ x. x.period.end ≤ revision) xs → (ts : List Item) → ComeBefore xs (map (begun revision) ts)
  before_begun xs all [] = tt
  before_begun xs all (t ∷ ts) = (all_weaker (λ x. x.period.end ≤ revision) (λ x. EndsFirst x (begun revision t)) (λ x e h. e) xs all, before_begun xs all ts)

  layer_first : (xs : List Item) → AllByRecursion (IsEndedRow last) xs → ComeBefore xs newest → ComeBefore xs (all_in newest begun_rows)
  layer_first xs all first = all_merged by_identifier items_total (λ y. AllByRecursion (λ x. EndsFirst x y) xs) newest begun_rows first
      (before_begun xs (all_weaker (IsEndedRow last) (λ x. x.period.end ≤ revision) (λ x e. omega (arith, e, sooner)) xs all) touched)

  all_end : (xs : List Item) → AllByRecursion (λ x. x.period.end ≤ revision) (map (ended revision) xs)
  all_end [] = tt
  all_end (x ∷ xs) = (omega arith, all_end xs)

  ended_first : ComeBefore ended_rows (all_in newest begun_rows)
  ended_first =
      let replaced = replaced_by touched newest in
      subst (ComeBefore ended_rows) (sym (newest_next revision last few newest touched up rising opened))
      (all_merged by_identifier items_total (λ y. AllByRecursion (λ x. EndsFirst x y) ended_rows) (filter (λ x. not (has_version x touched)) newest) begun_rows
      (each_left (λ x. has_version x touched) (λ y. AllByRecursion (λ x. EndsFirst x y) ended_rows)
      (λ y e. all_mapped (λ x. EndsFirst x y) (ended revision) replaced
      (each_kept (λ x. has_version x touched) (λ x. EndsFirst (ended revision x) y) (λ x k h. absurd (true≢false (sym k ∙ sym (same_place by_identifier items_total y x touched h) ∙ e))) newest)) newest)
      (before_begun ended_rows (all_end replaced) touched))

  before_ended : (xs : List Item) → ComeBefore xs newest → ComeBefore xs ended_rows
  before_ended xs all = all_mapped (λ y. AllByRecursion (λ x. EndsFirst x y) xs) (ended revision) (replaced_by touched newest) (before_some (λ x. has_version x touched) xs newest all)

  -- with the rows that the revision ends
  pub turns_next : (c : Collection) (layers : List LayerFeatures) → AllByRecursion (λ (layer : LayerFeatures). AllByRecursion (IsEndedRow last) layer.features) layers → AllComeBefore layers newest
      → AllComeBefore (with_ended c layers ended_rows) (all_in newest begun_rows)
  turns_next c layers ends turns = turns_with c layers ended_rows newest (all_in newest begun_rows) turns (each_first layers ends turns) (each_between layers turns) ended_first
    where
      each_first : (ls : List LayerFeatures) → AllByRecursion (λ (l : LayerFeatures). AllByRecursion (IsEndedRow last) l.features) ls → AllComeBefore ls newest → AllByRecursion (λ (l : LayerFeatures). ComeBefore l.features (all_in newest begun_rows)) ls
      each_first [] e t = tt
      each_first (l ∷ ls) e t = (layer_first l.features e.0 t.0, each_first ls e.1 t.2)

      each_between : (ls : List LayerFeatures) → AllComeBefore ls newest → AllByRecursion (λ (l : LayerFeatures). ComeBefore l.features ended_rows) ls
      each_between [] t = tt
      each_between (l ∷ ls) t = (before_ended l.features t.0, each_between ls t.2)
