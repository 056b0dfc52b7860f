-- What a feature says of its version, and the features that a command leaves.
use Rattle.std.proofs.Common.{◌≡◌, pos, Bool, true, false, cond, ◌&&◌, ◌||◌, List, [], ◌∷◌, map, filter, Option, Some, None, is_none, option_map, refl, sym, ap, ap₂, ◌∙◌}
use Rattle.std.specs.List.{AllByRecursion}
use Rattle.std.specs.Cmp.{first_so, second_so}
use Rattle.cad_day.specs.declared.day.Day.{Day}
use Rattle.cad_day.specs.Intervals.{interval_of}
use Rattle.cad_versions.specs.declared.command.Command.{Command}
use Rattle.cad_versions.specs.declared.command.Command.TheVariants.{Enter, Amend, Retire}
use Rattle.cad_versions.specs.declared.object_id.ObjectId.{ObjectId}
use Rattle.cad_versions.specs.BodyParts.{unit_named, party_named}
use Rattle.cad_versions.specs.Class.{class_of, class_number}
use Rattle.cad_versions.specs.Command.{object_named}
use Rattle.cad_day.specs.DayBefore.{day_before}
use Rattle.cad_versions.specs.lemmas.ListLemmas.{map_same}
use Rattle.cad_versions.specs.Objects.{object_number}
use Rattle.cad_versions.specs.VersionedObject.{VersionedObject}
use Rattle.cad_versions.specs.Versions.{is_of, is_open_of, closed_on}
use Rattle.cad_schema.specs.declared.attribute.Attribute.{Attribute}
use Rattle.cad_schema.specs.declared.attribute.Attribute.TheVariants as attribute
use Rattle.cad_schema.specs.declared.collection.Collection.{Collection}
use Rattle.cad_schema.specs.declared.collection.Collection.TheVariants.{Parcels, Units, Parties}
use Rattle.cad_schema.specs.Attributes.{attributes_of}
use Rattle.cad_feature.specs.Periods.{always}
use Rattle.cad_feature.specs.Flatten.{is_in, joined_name, or_null, as_text, as_whole, value_in, feature_in, features_in}
use Rattle.cad_feature.specs.Values.{Datum, a_day, a_span}
use Rattle.cad_layer.specs.lemmas.SegmentLemmas.{kept_pass}
use Rattle.cad_changes.specs.Changes.{left_by, next, is_closed_by, renames_on, is_object, is_touched_by, features_left}
use Rattle.cad_changes.specs.Touching.{day_in, whole_in, first_of, last_of, unit_place, party_place, number_at, is_numbered, Edits, or_old, span_to, edited_datum, edited_data, closing_day, closes, renames_if, renames, names_unit, names_party, touches, name_after, edits_by, item_left, items_left}
use Rattle.cad_changes.proofs.ClassLemmas.{below, no_unit, no_party}
use Rattle.cad_changes.proofs.FeatureLemmas.{name_next}
use Rattle.cad_changes.proofs.StandingLemmas.{IsOver, renamed}
use Rattle.cad_changes.proofs.VersionLemmas.{left_keeps, AddsNew}

-- ---- what a feature says

day_back : (d : Option Day) → day_in (or_null a_day d) ≡ d
day_back None = refl
day_back (Some day) = refl

whole_back : (o : Option ObjectId) → whole_in (or_null as_whole (option_map object_number o)) ≡ option_map (λ p. pos (object_number p)) o
whole_back None = refl
whole_back (Some object) = refl

numbered_is : (object : ObjectId) (o : Option ObjectId) → is_numbered object (option_map (λ p. pos (object_number p)) o) ≡ is_object object o
numbered_is object None = refl
numbered_is object (Some other) = refl

module _ (vs : List VersionedObject) (v : VersionedObject) where
  pub first_is : (collection : Collection) → first_of (feature_in vs collection v) ≡ Some v.first
  first_is Parcels = refl
  first_is other = refl

  pub last_is : (collection : Collection) → last_of (feature_in vs collection v) ≡ v.last
  last_is Parcels = day_back v.last
  last_is other = day_back v.last

  none_by : (o : Option ObjectId) → o ≡ None → None ≡ option_map (λ (p : ObjectId). pos (object_number p)) o
  none_by o e = ap (option_map (λ (p : ObjectId). pos (object_number p))) (sym e)

  unit_is : (collection : Collection) → is_in collection v ≡ true → number_at (feature_in vs collection v) (unit_place collection) ≡ option_map (λ (p : ObjectId). pos (object_number p)) (unit_named v.body)
  unit_is Units h = none_by (unit_named v.body) (no_unit v.body (below (class_number (class_of v.body)) 2 3 h refl))
  unit_is Parties h = none_by (unit_named v.body) (no_unit v.body (below (class_number (class_of v.body)) 1 3 h refl))
  unit_is other h = whole_back (unit_named v.body)

  party_is : (collection : Collection) → is_in collection v ≡ true → number_at (feature_in vs collection v) (party_place collection) ≡ option_map (λ (p : ObjectId). pos (object_number p)) (party_named v.body)
  party_is Parcels h = none_by (party_named v.body) (no_party v.body (below (class_number (class_of v.body)) 3 4 h refl))
  party_is Units h = none_by (party_named v.body) (no_party v.body (below (class_number (class_of v.body)) 2 4 h refl))
  party_is Parties h = none_by (party_named v.body) (no_party v.body (below (class_number (class_of v.body)) 1 4 h refl))
  party_is other h = whole_back (party_named v.body)

  module _ (c : Command) (collection : Collection) where
    closes_is : closes c (feature_in vs collection v) ≡ is_closed_by c v
    closes_is = go c
      where
        go : (k : Command) → closes k (feature_in vs collection v) ≡ is_closed_by k v
        go (Enter object first body) = refl
        go (Amend object first body) = ap (λ (d : Option Day). is_of object v && is_none d) (last_is collection)
        go (Retire object last) = ap (λ (d : Option Day). is_of object v && is_none d) (last_is collection)

    renames_is : renames c (feature_in vs collection v) ≡ renames_on c v.first
    renames_is = ap (renames_if c) (first_is collection)

    module _ (inside : is_in collection v ≡ true) where
      names_unit_is : names_unit c collection (feature_in vs collection v) ≡ is_object (object_named c) (unit_named v.body)
      names_unit_is = ap (is_numbered (object_named c)) (unit_is collection inside) ∙ numbered_is (object_named c) (unit_named v.body)

      names_party_is : names_party c collection (feature_in vs collection v) ≡ is_object (object_named c) (party_named v.body)
      names_party_is = ap (is_numbered (object_named c)) (party_is collection inside) ∙ numbered_is (object_named c) (party_named v.body)

      touches_is : touches c collection (feature_in vs collection v) ≡ is_touched_by c v
      touches_is =
          ap₂ ◌||◌ closes_is (ap₂ ◌&&◌ renames_is (ap₂ ◌||◌ names_unit_is names_party_is))

      -- the edits, by what the version says
      abbrev edits_of : Edits
      edits_of = record {
        closing = cond (is_closed_by c v) (closing_day c) None;
        unit_name = cond (renames_on c v.first && is_object (object_named c) (unit_named v.body)) (Some (name_after c)) None;
        party_name = cond (renames_on c v.first && is_object (object_named c) (party_named v.body)) (Some (name_after c)) None;
      }

      edits_are : edits_by c collection (feature_in vs collection v) ≡ edits_of
      edits_are = λ i. record {
        closing = cond (closes_is i) (closing_day c) None;
        unit_name = cond ((ap₂ ◌&&◌ renames_is names_unit_is) i) (Some (name_after c)) None;
        party_name = cond ((ap₂ ◌&&◌ renames_is names_party_is) i) (Some (name_after c)) None;
      }

-- ---- values that are edited

edited_map : (e : Edits) (first : Option Day) (f : Attribute → Datum) (attributes : List Attribute) → edited_data e first attributes (map f attributes) ≡ map (λ a. edited_datum e first a (f a)) attributes
edited_map e first f [] = refl
edited_map e first f (a ∷ rest) = ap (λ ds. edited_datum e first a (f a) ∷ ds) (edited_map e first f rest)

-- each value as it is said
pub edited_is : (e : Edits) (first : Option Day) (f g : Attribute → Datum) (attributes : List Attribute) → ((a : Attribute) → edited_datum e first a (f a) ≡ g a) → edited_data e first attributes (map f attributes) ≡ map g attributes
edited_is e first f g attributes same = edited_map e first f attributes ∙ map_same (λ a. edited_datum e first a (f a)) g same attributes

module _ (vs : List VersionedObject) (c : Command) (new : AddsNew vs c) (all : AllByRecursion (IsOver c) vs) (v : VersionedObject) where
  last_left : or_old (option_map a_day (cond (is_closed_by c v) (closing_day c) None)) (or_null a_day v.last) ≡ or_null a_day (left_by c v).last
  last_left = go c
    where
      by_closing : (day : Day) (b : Bool) → or_old (option_map a_day (cond b (Some day) None)) (or_null a_day v.last) ≡ or_null a_day (cond b (closed_on day v) v).last
      by_closing day true = refl
      by_closing day false = refl

      go : (k : Command) → or_old (option_map a_day (cond (is_closed_by k v) (closing_day k) None)) (or_null a_day v.last) ≡ or_null a_day (left_by k v).last
      go (Enter object first body) = refl
      go (Amend object first body) = by_closing (day_before first) (is_open_of object v)
      go (Retire object last) = by_closing last (is_open_of object v)

  lifespan_left : or_old (option_map (span_to (Some v.first)) (cond (is_closed_by c v) (closing_day c) None)) (or_null a_span (interval_of (Some v.first) v.last)) ≡ or_null a_span (interval_of (Some (left_by c v).first) (left_by c v).last)
  lifespan_left = go c
    where
      by_closing : (day : Day) (b : Bool) → or_old (option_map (span_to (Some v.first)) (cond b (Some day) None)) (or_null a_span (interval_of (Some v.first) v.last)) ≡ or_null a_span (interval_of (Some (cond b (closed_on day v) v).first) (cond b (closed_on day v) v).last)
      by_closing day true = refl
      by_closing day false = refl

      go : (k : Command) → or_old (option_map (span_to (Some v.first)) (cond (is_closed_by k v) (closing_day k) None)) (or_null a_span (interval_of (Some v.first) v.last)) ≡ or_null a_span (interval_of (Some (left_by k v).first) (left_by k v).last)
      go (Enter object first body) = refl
      go (Amend object first body) = by_closing (day_before first) (is_open_of object v)
      go (Retire object last) = by_closing last (is_open_of object v)

  -- a name that is joined
  name_left : (named : Option ObjectId) → or_old (cond (renames_on c v.first && is_object (object_named c) named) (Some (name_after c)) None) (or_null as_text (joined_name vs v.first named)) ≡ or_null as_text (joined_name (next vs c) v.first named)
  name_left named = go (renames_on c v.first && is_object (object_named c) named) refl
    where
      new_name : (o : Option ObjectId) → (renames_on c v.first && is_object (object_named c) o) ≡ true → name_after c ≡ or_null as_text (joined_name (next vs c) v.first o)
      new_name None e = absurd (never (renames_on c v.first) e)
        where
          never : (b : Bool) → (b && false) ≡ true → ⊥
          never true h = absurd cc
          never false h = absurd cc
      new_name (Some object) e = sym (renamed c vs all v.first (first_so _ _ e) object (second_so (renames_on c v.first) _ e))

      go : (b : Bool) → (renames_on c v.first && is_object (object_named c) named) ≡ b → or_old (cond b (Some (name_after c)) None) (or_null as_text (joined_name vs v.first named)) ≡ or_null as_text (joined_name (next vs c) v.first named)
      go true e = new_name named e
      go false e = ap (or_null as_text) (sym (name_next vs c new v.first named e))

  -- what a closing leaves as it was
  same : {Y : Type 0} (h : VersionedObject → Y) → ((day : Day) (w : VersionedObject) → h (closed_on day w) ≡ h w) → h v ≡ h (left_by c v)
  same h keeps = sym (left_keeps h keeps c v)

  value_left : (collection : Collection) (inside : is_in collection v ≡ true) (a : Attribute) → edited_datum (edits_of vs v c collection inside) (Some v.first) a (value_in vs v a) ≡ value_in (next vs c) (left_by c v) a
  value_left collection inside attribute.Object = same (λ w. value_in vs w attribute.Object) (λ day w. refl)
  value_left collection inside attribute.Number = same (λ w. value_in vs w attribute.Number) (λ day w. refl)
  value_left collection inside attribute.Begin = same (λ w. value_in vs w attribute.Begin) (λ day w. refl)
  value_left collection inside attribute.End = last_left
  value_left collection inside attribute.Lifespan = lifespan_left
  value_left collection inside attribute.Name = same (λ w. value_in vs w attribute.Name) (λ day w. refl)
  value_left collection inside attribute.Type = same (λ w. value_in vs w attribute.Type) (λ day w. refl)
  value_left collection inside attribute.Label = same (λ w. value_in vs w attribute.Label) (λ day w. refl)
  value_left collection inside attribute.Area = same (λ w. value_in vs w attribute.Area) (λ day w. refl)
  value_left collection inside attribute.Geometry = same (λ w. value_in vs w attribute.Geometry) (λ day w. refl)
  value_left collection inside attribute.ReferencePoint = same (λ w. value_in vs w attribute.ReferencePoint) (λ day w. refl)
  value_left collection inside attribute.Unit = same (λ w. value_in vs w attribute.Unit) (λ day w. refl)
  value_left collection inside attribute.UnitName = name_left (unit_named v.body) ∙ same (λ w. value_in (next vs c) w attribute.UnitName) (λ day w. refl)
  value_left collection inside attribute.Party = same (λ w. value_in vs w attribute.Party) (λ day w. refl)
  value_left collection inside attribute.PartyName = name_left (party_named v.body) ∙ same (λ w. value_in (next vs c) w attribute.PartyName) (λ day w. refl)
  value_left collection inside attribute.ShareNum = same (λ w. value_in vs w attribute.ShareNum) (λ day w. refl)
  value_left collection inside attribute.ShareDen = same (λ w. value_in vs w attribute.ShareDen) (λ day w. refl)
  value_left collection inside attribute.PartyRequired = same (λ w. value_in vs w attribute.PartyRequired) (λ day w. refl)

  item_is : (collection : Collection) → is_in collection v ≡ true → item_left c collection (feature_in vs collection v) ≡ feature_in (next vs c) collection (left_by c v)
  item_is collection inside = λ i. record {
    object = same (λ w. w.object) (λ day w. refl) i;
    number = same (λ w. w.number) (λ day w. refl) i;
    values = ((λ j. edited_data (edits_are vs v c collection inside j) (first_is vs v collection j) (attributes_of collection) (map (value_in vs v) (attributes_of collection)))
        ∙ edited_is (edits_of vs v c collection inside) (Some v.first) (value_in vs v) (value_in (next vs c) (left_by c v)) (attributes_of collection) (value_left collection inside)) i;
    period = always;
  }

-- ---- all that the command leaves

module _ (vs : List VersionedObject) (c : Command) (new : AddsNew vs c) (all : AllByRecursion (IsOver c) vs) (collection : Collection) where
  left_of : (us : List VersionedObject) → AllByRecursion (λ v. is_in collection v ≡ true) us
      → map (item_left c collection) (filter (touches c collection) (map (feature_in vs collection) us)) ≡ map (λ v. feature_in (next vs c) collection (left_by c v)) (filter (is_touched_by c) us)
  left_of [] inside = refl
  left_of (v ∷ us) inside =
      ap (λ b. map (item_left c collection) (cond b (feature_in vs collection v ∷ filter (touches c collection) (map (feature_in vs collection) us)) (filter (touches c collection) (map (feature_in vs collection) us)))) (touches_is vs v c collection inside.0)
      ∙ go (is_touched_by c v) (left_of us inside.1)
    where
      go : (b : Bool) → map (item_left c collection) (filter (touches c collection) (map (feature_in vs collection) us)) ≡ map (λ v. feature_in (next vs c) collection (left_by c v)) (filter (is_touched_by c) us)
          → map (item_left c collection) (cond b (feature_in vs collection v ∷ filter (touches c collection) (map (feature_in vs collection) us)) (filter (touches c collection) (map (feature_in vs collection) us)))
          ≡ map (λ v. feature_in (next vs c) collection (left_by c v)) (cond b (v ∷ filter (is_touched_by c) us) (filter (is_touched_by c) us))
      go true more = ap₂ ◌∷◌ (item_is vs c new all v collection inside.0) more
      go false more = more

  pub items_left_are : items_left c collection (features_in vs collection) ≡ features_left vs c collection
  items_left_are = left_of (filter (is_in collection) vs) (kept_pass (is_in collection) vs)
