-- The features of the next revision.
use Rattle.std.proofs.Common.{◌≡◌, ℕ, ℤ, pos, ◌<ℤ◌, ◌-ℤ◌, Bool, true, false, cond, ◌&&◌, List, [], ◌∷◌, map, filter, find, Option, Some, None, IfSome, is_none, option_map, option_and_then, refl, sym, ap, ◌∙◌, arith, Less, int_le, int_lt, int_eq}
use Rattle.std.specs.List.{AllByRecursion}
use Rattle.std.specs.List.Sorted.{IsStrictlySortedBy}
use Rattle.std.proofs.lemmas.Cmp.{tied_itself}
use Rattle.std.proofs.lemmas.Int.{ints}
use Rattle.std.proofs.lemmas.List.Kept.{IsStrictlySortedBy-filter}
use Rattle.std.specs.Cmp.{first_so, second_so}
use Rattle.std.proofs.lemmas.Bool.{or_parts}
use Rattle.cad_day.specs.declared.day.Day.{Day}
use Rattle.cad_day.specs.Days.{number_of}
use Rattle.cad_versions.specs.declared.object_id.ObjectId.{ObjectId}
use Rattle.cad_versions.specs.declared.command.Command.{Command}
use Rattle.cad_versions.specs.declared.command.Command.TheVariants.{Enter, Amend, Retire}
use Rattle.cad_versions.specs.BodyParts.{name_in, unit_named, party_named}
use Rattle.cad_versions.specs.Command.{object_named}
use Rattle.cad_day.specs.DayBefore.{day_before, number_of-day_before}
use Rattle.cad_versions.specs.Identifiers.{identifier_cmp, by_identifier as by_version, identifier_of as identifier_of_version}
use Rattle.cad_versions.specs.lemmas.ListLemmas.{map-map, map_same, filter-map, filter_same, find_filter}
use Rattle.cad_versions.specs.Objects.{object_number}
use Rattle.cad_versions.specs.VersionedObject.{VersionedObject}
use Rattle.cad_versions.specs.Versions.{is_of, is_open_of, closed_on, closed_if_open, begun, next_number}
use Rattle.cad_schema.specs.declared.attribute.Attribute.{Attribute}
use Rattle.cad_schema.specs.declared.attribute.Attribute.TheVariants as attribute
use Rattle.cad_schema.specs.declared.collection.Collection.{Collection}
use Rattle.cad_schema.specs.Attributes.{attributes_of}
use Rattle.cad_feature.specs.Features.{Item, identifier_of, by_identifier}
use Rattle.cad_feature.specs.Periods.{always}
use Rattle.cad_feature.specs.Flatten.{is_in, joined_name, or_null, as_text, value_in, feature_in, features_in}
use Rattle.cad_feature.specs.Lifespans.{holds_on, is_up_to}
use Rattle.cad_feature.specs.Values.{Datum}
use Rattle.cad_changes.specs.Changes.{version_added, left_by, next, is_closed_by, renames_on, is_object, names, is_touched_by, feature_if_in, features_left, touched}
use Rattle.cad_versions.specs.lemmas.OrderLemmas.{identifiers_total, versions_total}
use Rattle.cad_layer.specs.lemmas.ItemLemmas.{items_total}
use Rattle.cad_layer.specs.Merging.{put, put_if, merged}
use Rattle.cad_layer.specs.lemmas.MergeLemmas.{IsNew, find_put, filter_put, filter_put_out, map_put, merged_put, replaced}
use Rattle.cad_changes.proofs.TestLemmas.{each_fails, other_fails, no_last, find_map}
use Rattle.cad_changes.proofs.VersionLemmas.{left_keeps, left_identifier, left_order, AddsNew}

-- ---- names

pub same_object_number : (n : ℕ) (a b : ObjectId) → int_eq (pos n) (pos (object_number a)) ≡ true → int_eq (pos n) (pos (object_number b)) ≡ true → int_eq (pos (object_number a)) (pos (object_number b)) ≡ true
same_object_number n a b h k = grind (arith, ints)

pub turned : (a b : ObjectId) → int_eq (pos (object_number a)) (pos (object_number b)) ≡ true → int_eq (pos (object_number b)) (pos (object_number a)) ≡ true
turned a b h = grind (arith, ints)

not_later : (last day : Day) → int_lt (number_of last) (number_of day) ≡ false → int_le (number_of day) (number_of last) ≡ true
not_later last day h = grind (arith, ints)

goes_before : (first day : Day) → int_le (number_of first) (number_of day) ≡ false → number_of day <ℤ number_of first
goes_before first day h = grind (arith, ints)

under : (m n d : ℤ) → m <ℤ n → d ≡ n -ℤ pos 1 → int_le m d ≡ true
under m n d h e = grind (arith, ints)

not_after : (first day : Day) → int_le (number_of first) (number_of day) ≡ false → int_le (number_of day) (number_of (day_before first)) ≡ true
not_after first day h = let less = goes_before first day h in under (number_of day) (number_of first) (number_of (day_before first)) less (number_of-day_before day first less)

-- the version of the object that holds the day
abbrev pub holds : ObjectId → Day → VersionedObject → Bool
holds object day v = is_of object v && holds_on day v

-- a closing on that day or later changes nothing
closing_holds : (object closing : ObjectId) (day last : Day) (v : VersionedObject) → (is_of object v ≡ true → is_of closing v ≡ true → int_le (number_of day) (number_of last) ≡ true)
    → holds object day (closed_if_open closing last v) ≡ holds object day v
closing_holds object closing day last v late = go (is_open_of closing v) refl
  where
    opened : (b : Bool) → is_of object v ≡ b → is_open_of closing v ≡ true → (b && (int_le (number_of v.first) (number_of day) && int_le (number_of day) (number_of last))) ≡ (b && (int_le (number_of v.first) (number_of day) && is_up_to v.last day))
    opened true i e =
        let none : v.last ≡ None = no_last v.last (second_so (is_of closing v) (is_none v.last) e) in
        ap (λ b. int_le (number_of v.first) (number_of day) && b) (late i (first_so (is_of closing v) (is_none v.last) e) ∙ sym (ap (λ l. is_up_to l day) none))
    opened false i e = refl

    go : (b : Bool) → is_open_of closing v ≡ b → holds object day (cond b (closed_on last v) v) ≡ holds object day v
    go true e = opened (is_of object v) refl e
    go false e = refl

-- the command does not change what the object is called on the day
abbrev pub Keeps : Command → Day → ObjectId → Type 0
Keeps c day object = (renames_on c day && int_eq (pos (object_number object)) (pos (object_number (object_named c)))) ≡ false

left_holds : (c : Command) (day : Day) (object : ObjectId) → Keeps c day object → (v : VersionedObject) → holds object day (left_by c v) ≡ holds object day v
left_holds (Enter o first body) day object keeps v = refl
left_holds (Amend o first body) day object keeps v = closing_holds object o day (day_before first) v (λ i k. not_after first day (other_fails _ _ keeps (same_object_number (object_number v.object) object o i k)))
left_holds (Retire o last) day object keeps v = closing_holds object o day last v (λ i k. not_later last day (other_fails _ _ keeps (same_object_number (object_number v.object) object o i k)))

-- what begins on the command's first day does not hold an earlier one
added_holds : (o : ObjectId) (first day : Day) (object : ObjectId) → (int_le (number_of first) (number_of day) && int_eq (pos (object_number object)) (pos (object_number o))) ≡ false
    → (int_eq (pos (object_number o)) (pos (object_number object)) && (int_le (number_of first) (number_of day) && true)) ≡ false
added_holds o first day object keeps = go (int_eq (pos (object_number o)) (pos (object_number object))) refl
  where
    go : (b : Bool) → int_eq (pos (object_number o)) (pos (object_number object)) ≡ b → (b && (int_le (number_of first) (number_of day) && true)) ≡ false
    go true e = ap (λ b. b && true) (other_fails _ _ keeps (turned o object e))
    go false e = refl

module _ (vs : List VersionedObject) where
  find_next : (c : Command) → AddsNew vs c → (day : Day) (object : ObjectId) → Keeps c day object → find (holds object day) (next vs c) ≡ option_map (left_by c) (find (holds object day) vs)
  find_next (Enter o first body) new day object keeps =
      let c = Enter o first body in
      find_put by_version (holds object day) (begun o 1 first body) (map (left_by c) vs) (added_holds o first day object keeps) new ∙ find_map (holds object day) (left_by c) (left_holds c day object keeps) vs
  find_next (Amend o first body) new day object keeps =
      let c = Amend o first body in
      find_put by_version (holds object day) (begun o (next_number o vs) first body) (map (left_by c) vs) (added_holds o first day object keeps) new ∙ find_map (holds object day) (left_by c) (left_holds c day object keeps) vs
  find_next (Retire o last) new day object keeps = let c = Retire o last in find_map (holds object day) (left_by c) (left_holds c day object keeps) vs

  name_left : (c : Command) (o : Option VersionedObject) → option_and_then (λ v. name_in v.body) (option_map (left_by c) o) ≡ option_and_then (λ v. name_in v.body) o
  name_left c None = refl
  name_left c (Some v) = left_keeps (λ v. name_in v.body) (λ day v. refl) c v

  pub name_next : (c : Command) → AddsNew vs c → (day : Day) (named : Option ObjectId) → (renames_on c day && is_object (object_named c) named) ≡ false → joined_name (next vs c) day named ≡ joined_name vs day named
  name_next c new day None keeps = refl
  name_next c new day (Some object) keeps =
      ap (option_and_then (λ v. name_in v.body)) (find_filter (holds_on day) (is_of object) (next vs c) ∙ find_next c new day object keeps)
      ∙ name_left c (find (holds object day) vs) ∙ ap (option_and_then (λ v. name_in v.body)) (sym (find_filter (holds_on day) (is_of object) vs))

-- ---- features

module _ (vs : List VersionedObject) (c : Command) (new : AddsNew vs c) where
  value_next : (v : VersionedObject) → (renames_on c v.first && names (object_named c) v) ≡ false → (a : Attribute) → value_in vs v a ≡ value_in (next vs c) v a
  value_next v keeps attribute.Object = refl
  value_next v keeps attribute.Number = refl
  value_next v keeps attribute.Begin = refl
  value_next v keeps attribute.End = refl
  value_next v keeps attribute.Lifespan = refl
  value_next v keeps attribute.Name = refl
  value_next v keeps attribute.Type = refl
  value_next v keeps attribute.Label = refl
  value_next v keeps attribute.Area = refl
  value_next v keeps attribute.Geometry = refl
  value_next v keeps attribute.ReferencePoint = refl
  value_next v keeps attribute.Unit = refl
  value_next v keeps attribute.UnitName = ap (or_null as_text) (sym (name_next vs c new v.first (unit_named v.body) (each_fails (renames_on c v.first) _ _ keeps).0))
  value_next v keeps attribute.Party = refl
  value_next v keeps attribute.PartyName = ap (or_null as_text) (sym (name_next vs c new v.first (party_named v.body) (each_fails (renames_on c v.first) _ _ keeps).1))
  value_next v keeps attribute.ShareNum = refl
  value_next v keeps attribute.ShareDen = refl
  value_next v keeps attribute.PartyRequired = refl

  left_whole : (k : Command) (v : VersionedObject) → is_closed_by k v ≡ false → left_by k v ≡ v
  left_whole (Enter o first body) v e = refl
  left_whole (Amend o first body) v e = ap (λ t. cond t (closed_on (day_before first) v) v) e
  left_whole (Retire o last) v e = ap (λ t. cond t (closed_on last v) v) e

  feature_stays : (collection : Collection) (v : VersionedObject) → is_touched_by c v ≡ false → feature_in vs collection v ≡ feature_in (next vs c) collection (left_by c v)
  feature_stays collection v e =
      let both = or_parts (is_closed_by c v) _ e in
      let as_item : List Datum → Item = λ ds. record { object = v.object; number = v.number; values = ds; period = always } in
      ap as_item (map_same (value_in vs v) (value_in (next vs c) v) (value_next v both.1) (attributes_of collection))
      ∙ ap (feature_in (next vs c) collection) (sym (left_whole c v both.0))

  sorted_left : (us : List VersionedObject) → IsStrictlySortedBy by_version us → IsStrictlySortedBy by_version (map (left_by c) us)
  unfolding IsStrictlySortedBy
  sorted_left [] up = tt
  sorted_left (u ∷ us) up = (all_left us up.0, sorted_left us up.1)
    where
      all_left : (ws : List VersionedObject) → AllByRecursion (λ w. by_version u w ≡ Less) ws → AllByRecursion (λ w. by_version (left_by c u) w ≡ Less) (map (left_by c) ws)
      all_left [] all = tt
      all_left (w ∷ ws) all = (left_order c u w ∙ all.0, all_left ws all.1)

  module _ (collection : Collection) (up : IsStrictlySortedBy by_version vs) where
    abbrev kept : List VersionedObject
    kept = filter (is_in collection) vs

    abbrev now : VersionedObject → Item
    now = feature_in (next vs c) collection

    left_in : filter (is_in collection) (map (left_by c) vs) ≡ map (left_by c) kept
    left_in = filter-map (is_in collection) (left_by c) vs ∙ ap (map (left_by c)) (filter_same _ _ (left_keeps (is_in collection) (λ day v. refl) c) vs)

    left_features : map now (filter (is_in collection) (map (left_by c) vs)) ≡ merged by_identifier (features_in vs collection) (features_left vs c collection)
    left_features =
        ap (map now) left_in ∙ map-map now (left_by c) kept
        ∙ sym (replaced by_identifier items_total (feature_in vs collection) (λ v. now (left_by c v)) (is_touched_by c)
        (λ a. ap (λ i. identifier_cmp i (identifier_of_version a)) (left_identifier c a) ∙ tied_itself identifiers_total (identifier_of_version a))
        (λ x a. ap (λ i. identifier_cmp (identifier_of x) i) (sym (left_identifier c a)))
        (feature_stays collection) kept (IsStrictlySortedBy-filter by_version (is_in collection) vs up))

    put_features : (o : Option VersionedObject) (ls : List VersionedObject) (base changes : List Item) → IfSome o (λ n. IsNew by_version n ls) → IsStrictlySortedBy by_version ls
        → map now (filter (is_in collection) ls) ≡ merged by_identifier base changes
        → map now (filter (is_in collection) (put_if by_version o ls)) ≡ merged by_identifier base (put_if by_identifier (option_and_then (feature_if_in (next vs c) collection) o) changes)
    put_features None ls base changes none rises e = e
    put_features (Some n) ls base changes apart rises e = go (is_in collection n) refl
      where
        go : (b : Bool) → is_in collection n ≡ b → map now (filter (is_in collection) (put by_version n ls)) ≡ merged by_identifier base (put_if by_identifier (cond b (Some (now n)) None) changes)
        go true i =
            ap (map now) (filter_put by_version versions_total (is_in collection) n ls i apart rises) ∙ map_put by_version by_identifier now (λ a b. refl) n (filter (is_in collection) ls)
            ∙ ap (put by_identifier (now n)) e ∙ sym (merged_put by_identifier items_total base (now n) changes)
        go false i = ap (map now) (filter_put_out by_version (is_in collection) n ls i apart) ∙ e

    pub features_next : features_in (next vs c) collection ≡ merged by_identifier (features_in vs collection) (touched vs c collection)
    features_next = put_features (version_added vs c) (map (left_by c) vs) (features_in vs collection) (features_left vs c collection) new (sorted_left vs up) left_features
