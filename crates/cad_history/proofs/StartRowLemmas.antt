-- The rows that a start makes follow the rules of rows.
use Rattle.std.proofs.Common.{◌≡◌, ℕ, ℤ, ◌≤◌, List, [], ◌∷◌, ◌++◌, refl, sym, ap, ◌∙◌, arith, Less, is_eq, true≢false}
use Rattle.std.specs.List.{AllByRecursion}
use Rattle.std.specs.List.Sorted.{IsStrictlySortedBy}
use Rattle.std.proofs.lemmas.List.Elements.{All-from_recursion, recursion_from_All}
use Rattle.cad_versions.specs.Entries.{Entry}
use Rattle.cad_versions.specs.Identifiers.{identifier_cmp}
use Rattle.cad_versions.specs.lemmas.ListLemmas.{all_weaker, all_push, sorted_push}
use Rattle.cad_schema.specs.declared.collection.Collection.{Collection}
use Rattle.cad_feature.specs.Features.{Item, by_identifier, IsFeatureOf, AreFeaturesOf}
use Rattle.cad_feature.specs.VersionRows.{IsRowOf, RunOn, AreRowsOfVersion}
use Rattle.cad_index.specs.Layers.{LayerFeatures}
use Rattle.cad_history.specs.Rows.{IsOpenRow, IsEndedRow, EndsFirst, ComeBefore, AllComeBefore}
use Rattle.cad_history.specs.inner.Starting.{AreOrdered, pushed, layers_of, rows_of}
use Rattle.cad_history.proofs.StartLemmas.{IsOf, IsUnder, less, greater, all_less, run_rises, row_of, id_of}

-- ---- what holds of each list

module _ (id : ℤ × ℤ) (Q : List Item → Type 0) (P : Item → Type 0) (empty : Q []) (step : (l : List Item) (x : Item) → AllByRecursion (IsUnder id) l → Q l → P x → Q (l ++ x ∷ [])) where
  pub each_pushed : (xs : List Item) (ls : List (List Item)) → AllByRecursion P xs → AllByRecursion (AllByRecursion (IsUnder id)) ls → AllByRecursion Q ls → AllByRecursion Q (pushed xs ls)
  each_pushed [] ls some under all = all
  each_pushed (x ∷ xs) [] some under all = (step [] x tt empty some.0, each_pushed xs [] some.1 tt tt)
  each_pushed (x ∷ xs) (l ∷ ls) some under all = (step l x under.0 all.0 some.0, each_pushed xs ls some.1 under.1 all.1)

pub all_alike : (c : Collection) (ls : List (List Item)) → AllByRecursion (λ (layer : LayerFeatures). layer.collection ≡ c) (layers_of c ls)
all_alike c [] = tt
all_alike c (l ∷ ls) = (refl, all_alike c ls)

pub to_layers : (c : Collection) (Q : List Item → Type 0) (ls : List (List Item)) → AllByRecursion Q ls → AllByRecursion (λ (layer : LayerFeatures). Q layer.features) (layers_of c ls)
to_layers c Q [] all = tt
to_layers c Q (l ∷ ls) all = (all.0, to_layers c Q ls all.1)

pub of_layers : (c : Collection) (Q : List Item → Type 0) (ls : List (List Item)) → AllByRecursion (λ (layer : LayerFeatures). Q layer.features) (layers_of c ls) → AllByRecursion Q ls
of_layers c Q [] all = tt
of_layers c Q (l ∷ ls) all = (all.0, of_layers c Q ls all.1)

module _ (id : ℤ × ℤ) where
  -- one feature more, behind the others
  listed_more : (c : Collection) (l : List Item) (x : Item) → AllByRecursion (IsUnder id) l → AreFeaturesOf c l → IsOf id x → IsFeatureOf c x → AreFeaturesOf c (l ++ x ∷ [])
  listed_more c l x under listed of fits = record {
    each = All-from_recursion (IsFeatureOf c) (l ++ x ∷ []) (all_push (IsFeatureOf c) l x (recursion_from_All (IsFeatureOf c) l listed.each) fits);
    ascending = sorted_push by_identifier l x listed.ascending (all_less id x l of under);
  }

  -- ---- one row ends before the other begins

  under_first : (y x : Item) → IsOf id x → IsUnder id y → EndsFirst y x
  under_first y x of under h = absurd (true≢false (sym h ∙ ap is_eq (less id y x of under)))

  before_under : (x y : Item) → IsOf id x → IsUnder id y → EndsFirst x y
  before_under x y of under h = absurd (true≢false (sym h ∙ ap is_eq (greater id y x of under)))

  come_first : (l m : List Item) (x : Item) → ComeBefore l m → AllByRecursion (IsUnder id) m → IsOf id x → ComeBefore (l ++ x ∷ []) m
  come_first l [] x turns under of = tt
  come_first l (y ∷ m) x turns under of = (all_push (λ w. EndsFirst w y) l x turns.0 (before_under x y of under.0), come_first l m x turns.1 under.1 of)

  come_last : (l m : List Item) (y : Item) → ComeBefore l m → AllByRecursion (λ w. EndsFirst w y) l → ComeBefore l (m ++ y ∷ [])
  come_last l m y turns all = all_push (λ z. AllByRecursion (λ w. EndsFirst w z) l) m y turns all

  all_first : (l : List Item) (y : Item) → AllByRecursion (IsUnder id) l → IsOf id y → AllByRecursion (λ w. EndsFirst w y) l
  all_first l y under of = all_weaker (IsUnder id) (λ w. EndsFirst w y) (λ w u. under_first w y of u) l under

  come_both : (l m : List Item) (x y : Item) → ComeBefore l m → AllByRecursion (IsUnder id) l → AllByRecursion (IsUnder id) m → IsOf id x → IsOf id y → x.period.end ≤ y.period.start → ComeBefore (l ++ x ∷ []) (m ++ y ∷ [])
  come_both l m x y turns ul um ofx ofy h = come_last (l ++ x ∷ []) m y (come_first l m x turns um ofx) (all_push (λ w. EndsFirst w y) l x (all_first l y ul ofy) (λ same. h))

  module _ (c : Collection) where
    later_turn : (end : ℕ) (l : List Item) (x : Item) (start : ℕ) (xs : List Item) (ls : List (List Item)) → RunOn start end xs → x.period.end ≤ start → IsOf id x → AllByRecursion (IsOf id) xs
        → AllByRecursion (IsUnder id) l → AllByRecursion (AllByRecursion (IsUnder id)) ls → AllByRecursion (λ (later : LayerFeatures). ComeBefore l later.features) (layers_of c ls)
        → AllByRecursion (λ (later : LayerFeatures). ComeBefore (l ++ x ∷ []) later.features) (layers_of c (pushed xs ls))
    later_turn end l x start [] [] run h of all under below turns = tt
    later_turn end l x start [] (m ∷ ls) run h of all under below turns = (come_first l m x turns.0 below.0 of, later_turn end l x start [] ls run h of all under below.1 turns.1)
    later_turn end l x start (y ∷ xs) [] run h of all under below turns = (
      come_both l [] x y tt under tt of all.0 (omega (arith, h, run.0)),
      later_turn end l x y.period.end xs [] run.2 (omega (arith, h, run.1)) of all.1 under tt tt,
    )
    later_turn end l x start (y ∷ xs) (m ∷ ls) run h of all under below turns = (
      come_both l m x y turns.0 under below.0 of all.0 (omega (arith, h, run.0)),
      later_turn end l x y.period.end xs ls run.2 (omega (arith, h, run.1)) of all.1 under below.1 turns.1,
    )

    module _ (newest : List Item) (n : Item) (of_n : IsOf id n) (up : AllByRecursion (IsUnder id) newest) where
      turns_more : (start : ℕ) (xs : List Item) (ls : List (List Item)) → RunOn start n.period.start xs → AllByRecursion (IsOf id) xs → AllByRecursion (AllByRecursion (IsUnder id)) ls
          → AllComeBefore (layers_of c ls) newest → AllComeBefore (layers_of c (pushed xs ls)) (newest ++ n ∷ [])
      turns_more start [] [] run all below turns = tt
      turns_more start [] (l ∷ ls) run all below turns = (come_last l newest n turns.0 (all_first l n below.0 of_n), turns.1, turns_more start [] ls run all below.1 turns.2)
      turns_more start (x ∷ xs) [] run all below turns = (
        come_both [] newest x n (nothing newest) tt up all.0 of_n (run_rises x.period.end n.period.start xs run.2),
        later_turn n.period.start [] x x.period.end xs [] run.2 (omega arith) all.0 all.1 tt tt tt,
        turns_more x.period.end xs [] run.2 all.1 tt tt,
      )
        where
          nothing : (m : List Item) → ComeBefore [] m
          nothing [] = tt
          nothing (y ∷ m) = (tt, nothing m)
      turns_more start (x ∷ xs) (l ∷ ls) run all below turns = (
        come_both l newest x n turns.0 below.0 up all.0 of_n (run_rises x.period.end n.period.start xs run.2),
        later_turn n.period.start l x x.period.end xs ls run.2 (omega arith) all.0 all.1 below.0 below.1 turns.1,
        turns_more x.period.end xs ls run.2 all.1 below.1 turns.2,
      )

run_ends : (start end last : ℕ) (xs : List Item) → RunOn start end xs → end ≤ last → AllByRecursion (IsEndedRow last) xs
run_ends start end last [] run h = tt
run_ends start end last (x ∷ xs) run h = (omega (arith, h, run_rises x.period.end end xs run.2), run_ends x.period.end end last xs run.2 h)

all_two : {X : Type 0} (P Q : X → Type 0) (xs : List X) → AllByRecursion P xs → AllByRecursion Q xs → AllByRecursion (λ x. P x × Q x) xs
all_two P Q [] a b = tt
all_two P Q (x ∷ xs) a b = ((a.0, b.0), all_two P Q xs a.1 b.1)

pub none_ascends : IsStrictlySortedBy by_identifier []
unfolding IsStrictlySortedBy
none_ascends = tt

module _ (last : ℕ) (all : List Entry) (c : Collection) (e : Entry) (xs : List Item) (n : Item) (are : AreRowsOfVersion last all c e xs n) where
  abbrev id : ℤ × ℤ
  id = id_of last all c e

  abbrev own : AllByRecursion (IsOf id) xs
  own = all_weaker (IsRowOf last all c e) (IsOf id) (row_of last all c e) xs are.each

  -- with the rows of one version more
  pub rows_are : (newest : List Item) (ls : List (List Item)) → AllByRecursion (IsUnder id) newest → AllByRecursion (AllByRecursion (IsUnder id)) ls → AreOrdered (rows_of c last newest ls) → AreOrdered (rows_of c last (newest ++ n ∷ []) (pushed xs ls))
  rows_are newest ls up below rows =
      let none : AreFeaturesOf c [] = record { each = All-from_recursion (IsFeatureOf c) [] tt; ascending = none_ascends } in
      let fit = all_weaker (IsRowOf last all c e) (λ x. IsOf id x × IsFeatureOf c x) (λ x is. (row_of last all c e x is, is.fits)) xs are.each in
      record {
        listed = listed_more id c newest n up rows.listed (row_of last all c e n are.last) are.last.fits;
        alike = all_alike c (pushed xs ls);
        each = to_layers c (AreFeaturesOf c) (pushed xs ls) (each_pushed id (AreFeaturesOf c) (λ x. IsOf id x × IsFeatureOf c x) none (λ l x under listed one. listed_more id c l x under listed one.0 one.1) xs ls fit below (of_layers c (AreFeaturesOf c) ls rows.each));
        newest_open = all_push (IsOpenRow last) newest n rows.newest_open (record { begun = are.begun; endless = are.endless });
        earlier_ended = to_layers c (AllByRecursion (IsEndedRow last)) (pushed xs ls) (each_pushed id (AllByRecursion (IsEndedRow last)) (IsEndedRow last) tt (λ l x under ended one. all_push (IsEndedRow last) l x ended one) xs ls
            (run_ends e.entered n.period.start last xs are.run are.begun) below (of_layers c (AllByRecursion (IsEndedRow last)) ls rows.earlier_ended));
        in_turn = turns_more id c newest n (row_of last all c e n are.last) up e.entered xs ls are.run own below rows.in_turn;
      }

  -- ---- all rows are under a later version

  module _ (later : ℤ × ℤ) (behind : identifier_cmp id later ≡ Less) where
    is_under : (x : Item) → IsRowOf last all c e x → IsUnder later x
    is_under x is = ap (λ i. identifier_cmp i later) (row_of last all c e x is) ∙ behind

    pub newest_under : (newest : List Item) → AllByRecursion (IsUnder later) newest → AllByRecursion (IsUnder later) (newest ++ n ∷ [])
    newest_under newest under = all_push (IsUnder later) newest n under (is_under n are.last)

    pub lists_under : (ls : List (List Item)) → AllByRecursion (AllByRecursion (IsUnder id)) ls → AllByRecursion (AllByRecursion (IsUnder later)) ls → AllByRecursion (AllByRecursion (IsUnder later)) (pushed xs ls)
    lists_under ls below under =
        each_pushed id (AllByRecursion (IsUnder later)) (IsUnder later) tt (λ l x u all one. all_push (IsUnder later) l x all one) xs ls (all_weaker (IsRowOf last all c e) (IsUnder later) is_under xs are.each) below under
