-- The rows of some versions, and with those of one version more.
use Rattle.std.proofs.Common.{◌≡◌, ℕ, ◌≤◌, ◌<◌, pos, int_le, Bool, true, false, cond, List, [], ◌∷◌, ◌++◌, length, map, filter, get_or, set, Vec, refl, sym, ap, ◌∙◌, subst, arith, append_assoc, append-nil, Less, zero, suc, ◌⊎◌, inl, inr}
use Rattle.std.specs.Global.{Global}
use Rattle.std.specs.List.{AllByRecursion}
use Rattle.std.specs.List.Sorted.{IsStrictlySortedBy}
use Rattle.std.proofs.lemmas.Int.{ints}
use Rattle.std.proofs.lemmas.List.Elements.{All-from_recursion}
use Rattle.cad_versions.specs.declared.command.Command.{Command}
use Rattle.cad_versions.specs.AsOf.{all_entries, versions_at}
use Rattle.cad_versions.specs.Entries.{Entry, version_in, seen_at}
use Rattle.cad_versions.specs.Identifiers.{identifier_of as identifier_of_version, by_identifier as version_order}
use Rattle.cad_versions.specs.Refusals.{AreAccepted}
use Rattle.cad_versions.specs.lemmas.ListLemmas.{map-map, filter-map}
use Rattle.cad_versions.specs.lemmas.SeenLemmas.{versions_then}
use Rattle.cad_schema.specs.declared.collection.Collection.{Collection}
use Rattle.cad_feature.specs.Features.{Item, IsFeatureOf}
use Rattle.cad_feature.specs.FeaturesThen.{entry_in, feature_at}
use Rattle.cad_feature.specs.Flatten.{is_in, feature_in, features_in}
use Rattle.cad_feature.specs.VersionRows.{AreRowsOfVersion}
use Rattle.cad_history.specs.Registers.{AreRowsOf}
use Rattle.cad_history.specs.Rows.{Rows, AreRows, row_count, shown_at}
use Rattle.cad_history.specs.inner.Starting.{AreOrdered, items_in, pushed, pushed_at, pushed_from, rows_of, is_by, seen_of}
use Rattle.cad_history.proofs.StartLemmas.{IsUnder, shown_more}
use Rattle.cad_history.proofs.StartRowLemmas.{none_ascends, rows_are, newest_under, lists_under}

-- ---- rows that are pushed one after the other

later_lists : (at : ℕ) (xs : List Item) (l : List Item) (ls : List (List Item)) → pushed_from (suc at) xs (l ∷ ls) ≡ l ∷ pushed_from at xs ls
later_lists at [] l ls = refl
later_lists at (x ∷ xs) l ls = later_lists (suc at) xs l (pushed_at at x ls)

pub all_pushed : (xs : List Item) (ls : List (List Item)) → pushed_from 0 xs ls ≡ pushed xs ls
all_pushed [] ls = refl
all_pushed (x ∷ xs) [] = later_lists 0 xs (x ∷ []) [] ∙ ap (λ zs. (x ∷ []) ∷ zs) (all_pushed xs [])
all_pushed (x ∷ xs) (l ∷ ls) = later_lists 0 xs (l ++ x ∷ []) ls ∙ ap (λ zs. (l ++ x ∷ []) ∷ zs) (all_pushed xs ls)

pub none_pushed : (at : ℕ) (xs : List Item) (ls : List (List Item)) → length xs ≡ 0 → pushed_from at xs ls ≡ ls
none_pushed at [] ls e = refl
none_pushed at (x ∷ xs) ls e = absurd (omega (arith, e))

-- a row is put behind the others of a list
pub set_pushed : (at : ℕ) (vs : List (Vec Item Global)) (w v : Vec Item Global) (row : Item) → at < length vs → w ≡ get_or vs at w → v.items ≡ w.items ++ row ∷ [] → map items_in (set vs at v) ≡ pushed_at at row (map items_in vs)
set_pushed at [] w v row h is e = absurd (omega (arith, h))
set_pushed zero (u ∷ vs) w v row h is e = ap (λ l. l ∷ map items_in vs) (e ∙ ap (λ (x : Vec Item Global). x.items ++ row ∷ []) is)
set_pushed (suc at) (u ∷ vs) w v row h is e = ap (λ ls. u.items ∷ ls) (set_pushed at vs w v row (omega (arith, h)) is e)

-- or is a list by itself
pub end_pushed : (at : ℕ) (vs : List (Vec Item Global)) (v : Vec Item Global) (row : Item) → length vs ≤ at → v.items ≡ row ∷ [] → map items_in (vs ++ v ∷ []) ≡ pushed_at at row (map items_in vs)
end_pushed zero [] v row h e = ap (λ l. l ∷ []) e
end_pushed (suc at) [] v row h e = ap (λ l. l ∷ []) e
end_pushed zero (u ∷ vs) v row h e = absurd (omega (arith, h))
end_pushed (suc at) (u ∷ vs) v row h e = ap (λ ls. u.items ∷ ls) (end_pushed at vs v row (omega (arith, h)) e)

-- one of the lists
pub one_of : (Q : List Item → Type 0) (ys : List (Vec Item Global)) (v : Vec Item Global) (zs : List (Vec Item Global)) → AllByRecursion Q (map items_in (ys ++ v ∷ zs)) → Q v.items
one_of Q [] v zs all = all.0
one_of Q (y ∷ ys) v zs all = one_of Q ys v zs all.1

-- the same of equal lists
pub moved : (P : List Item → List (List Item) → Type 0) (xs ys : List Item) (ls ms : List (List Item)) → ys ≡ xs → ms ≡ ls → P xs ls → P ys ms
moved P xs ys ls ms e f h = subst (λ zs. P zs ms) (sym e) (subst (P xs) (sym f) h)

-- ---- the versions that are left

-- they ascend by their identifiers
abbrev pub IsRest : List Entry → Type 0
IsRest es = IsStrictlySortedBy version_order (map version_in es)

-- all rows are of versions before the one of the entry
pub record AreAbove (last : List Item) (earlier : List (List Item)) (e : Entry) : Type 0 where
  pub each : AllByRecursion (IsUnder (identifier_of_version e.version)) last
  pub lists : AllByRecursion (AllByRecursion (IsUnder (identifier_of_version e.version))) earlier

pub none_above : (es : List Entry) → AllByRecursion (AreAbove [] []) es
none_above [] = tt
none_above (e ∷ es) = (record { each = tt; lists = tt }, none_above es)

pub no_rows : (c : Collection) (last : ℕ) → AreOrdered (rows_of c last [] [])
no_rows c last = record { listed = record { each = All-from_recursion (IsFeatureOf c) [] tt; ascending = none_ascends }; alike = tt; each = tt; newest_open = tt; earlier_ended = tt; in_turn = tt }

rest_split : (e : Entry) (es : List Entry) → IsRest (e ∷ es) → AllByRecursion (λ d. version_order (version_in e) (version_in d) ≡ Less) es × IsRest es
unfolding IsStrictlySortedBy
rest_split e es up = (go es up.0, up.1)
  where
    go : (ds : List Entry) → AllByRecursion (λ v. version_order (version_in e) v ≡ Less) (map version_in ds) → AllByRecursion (λ d. version_order (version_in e) (version_in d) ≡ Less) ds
    go [] all = tt
    go (d ∷ ds) all = (all.0, go ds all.1)

module _ (newest : ℕ) (all : List Entry) (c : Collection) where
  first_seen : (r : ℕ) (e : Entry) (es : List Entry) → seen_of all c r (e ∷ es) ≡ seen_of all c r (e ∷ []) ++ seen_of all c r es
  first_seen r e es = go (is_by r e) (entry_in c e)
    where
      then : Entry → Item
      then entry = feature_at all c entry r

      go : (b d : Bool) → map then (filter (entry_in c) (cond b (e ∷ filter (is_by r) es) (filter (is_by r) es))) ≡ map then (filter (entry_in c) (cond b (e ∷ []) [])) ++ seen_of all c r es
      go true d = own (entry_in c e)
        where
          own : (k : Bool) → map then (cond k (e ∷ filter (entry_in c) (filter (is_by r) es)) (filter (entry_in c) (filter (is_by r) es))) ≡ map then (cond k (e ∷ []) []) ++ seen_of all c r es
          own true = refl
          own false = refl
      go false d = refl

  not_seen : (r : ℕ) (e : Entry) → r ≤ newest → (entry_in c e ≡ false) ⊎ (is_by newest e ≡ false) → seen_of all c r (e ∷ []) ≡ []
  not_seen r e low (inl other) = go (is_by r e)
    where
      go : (b : Bool) → map (λ entry. feature_at all c entry r) (filter (entry_in c) (cond b (e ∷ []) [])) ≡ []
      go true = ap (λ k. map (λ entry. feature_at all c entry r) (cond k (e ∷ []) [])) other
      go false = refl
  not_seen r e low (inr later) = ap (λ b. map (λ entry. feature_at all c entry r) (filter (entry_in c) (cond b (e ∷ []) []))) (not_yet e.entered r newest low later)
    where
      not_yet : (n r newest : ℕ) → r ≤ newest → int_le (pos n) (pos newest) ≡ false → int_le (pos n) (pos r) ≡ false
      not_yet n r newest low h = grind (arith, ints)

  -- what all entries show is what the rows so far show, and what the rest of the entries shows
  abbrev pub IsSeen : Rows → List Entry → Type 0
  IsSeen rows rest = (revision : ℕ) → revision ≤ newest → seen_of all c revision all ≡ shown_at revision rows ++ seen_of all c revision rest

  module _ (last : List Item) (earlier : List (List Item)) (rest behind : List Entry) (e : Entry) (is : rest ≡ e ∷ behind) (rising : IsRest rest) (above : AllByRecursion (AreAbove last earlier) rest) where
    first_above : AreAbove last earlier e
    first_above = (subst (AllByRecursion (AreAbove last earlier)) is above).0

    pub left_rising : IsRest behind
    left_rising = (rest_split e behind (subst IsRest is rising)).1

    pub left_above : AllByRecursion (AreAbove last earlier) behind
    left_above = (subst (AllByRecursion (AreAbove last earlier)) is above).1

    pub left_seen : (entry_in c e ≡ false) ⊎ (is_by newest e ≡ false) → IsSeen (rows_of c newest last earlier) rest → IsSeen (rows_of c newest last earlier) behind
    left_seen out so_far r low =
        so_far r low ∙ ap (λ zs. shown_at r (rows_of c newest last earlier) ++ zs) (ap (seen_of all c r) is ∙ first_seen r e behind ∙ ap (λ zs. zs ++ seen_of all c r behind) (not_seen r e low out))

    module _ (few : newest < 4294967295) (xs : List Item) (n : Item) (are : AreRowsOfVersion newest all c e xs n) where
      pub more_rows : AreOrdered (rows_of c newest last earlier) → AreOrdered (rows_of c newest (last ++ n ∷ []) (pushed xs earlier))
      more_rows rows = rows_are newest all c e xs n are last earlier first_above.each first_above.lists rows

      pub more_above : AllByRecursion (AreAbove (last ++ n ∷ []) (pushed xs earlier)) behind
      more_above = go behind (rest_split e behind (subst IsRest is rising)).0 left_above
        where
          go : (ds : List Entry) → AllByRecursion (λ d. version_order (version_in e) (version_in d) ≡ Less) ds → AllByRecursion (AreAbove last earlier) ds → AllByRecursion (AreAbove (last ++ n ∷ []) (pushed xs earlier)) ds
          go [] less up = tt
          go (d ∷ ds) less up = (
            record {
              each = newest_under newest all c e xs n are (identifier_of_version d.version) less.0 last up.0.each;
              lists = lists_under newest all c e xs n are (identifier_of_version d.version) less.0 earlier first_above.lists up.0.lists;
            },
            go ds less.1 up.1,
          )

      pub more_seen : entry_in c e ≡ true → IsSeen (rows_of c newest last earlier) rest → IsSeen (rows_of c newest (last ++ n ∷ []) (pushed xs earlier)) behind
      more_seen inside so_far r low =
          so_far r low ∙ ap (λ zs. shown_at r (rows_of c newest last earlier) ++ zs) (ap (seen_of all c r) is ∙ first_seen r e behind)
          ∙ sym (append_assoc (shown_at r (rows_of c newest last earlier)) (seen_of all c r (e ∷ [])) (seen_of all c r behind))
          ∙ ap (λ zs. zs ++ seen_of all c r behind) (sym (shown_more newest all c e xs n are r low few last earlier inside first_above.each first_above.lists))

-- ---- all of them

pub all_seen : (all : List Entry) (c : Collection) (r : ℕ) → features_in (versions_at r all) c ≡ seen_of all c r all
all_seen all c r =
    let then_in = feature_in (versions_at r all) c in
    ap (map then_in) (filter-map (is_in c) (seen_at r) (filter (is_by r) all)) ∙ map-map then_in (seen_at r) (filter (entry_in c) (filter (is_by r) all))

pub are_shown : (newest : ℕ) (all : List Entry) (c : Collection) (rows : Rows) (rest : List Entry) → rest ≡ [] → IsSeen newest all c rows rest → (r : ℕ) → r ≤ newest → shown_at r rows ≡ features_in (versions_at r all) c
are_shown newest all c rows rest none so_far r low =
    sym (append-nil (shown_at r rows)) ∙ ap (λ es. shown_at r rows ++ seen_of all c r es) (sym none) ∙ sym (so_far r low) ∙ sym (all_seen all c r)

-- ---- a register

pub counted_rows : (rows : Rows) → AreOrdered rows → row_count rows ≤ 18446744073709551615 → AreRows rows
counted_rows rows ordered few = record { listed = ordered.listed; alike = ordered.alike; each = ordered.each; newest_open = ordered.newest_open; earlier_ended = ordered.earlier_ended; in_turn = ordered.in_turn; few = few }

pub of_commands : (newest : ℕ) (all : List Entry) (rows : Rows) → rows.last ≡ newest → ((r : ℕ) → r ≤ newest → shown_at r rows ≡ features_in (versions_at r all) rows.collection)
    → (commands : List Command) → AreAccepted [] commands → all ≡ all_entries commands → newest ≡ length commands → AreRowsOf commands rows
of_commands newest all rows last shown commands accepted is count = record {
  last = omega (arith, last, count);
  each = λ r low. shown r (omega (arith, low, count)) ∙ ap (λ es. features_in (versions_at r es) rows.collection) is ∙ ap (λ vs. features_in vs rows.collection) (sym (versions_then commands accepted r low));
}
