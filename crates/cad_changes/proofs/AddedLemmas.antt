-- The feature that a command adds, told from the features before it.
use Rattle.std.proofs.Common.{◌≡◌, ℕ, ◌+◌, ◌≤◌, Bool, true, false, cond, ◌&&◌, ◌==◌, List, [], ◌∷◌, length, map, filter, find, Option, Some, None, option_map, option_and_then, refl, sym, ap, ap₂, ◌∙◌, subst, arith, nat_le, nat_lt}
use Rattle.std.specs.List.{AllByRecursion}
use Rattle.std.proofs.lemmas.Bool.Decides.{nat_tests}
use Rattle.std.proofs.lemmas.List.{length-map}
use Rattle.std.proofs.Math.Bool.{and-false}
use Rattle.cad_day.specs.declared.day.Day.{Day}
use Rattle.cad_versions.specs.declared.body.Body.{Body}
use Rattle.cad_versions.specs.declared.body.Class.{Class}
use Rattle.cad_versions.specs.declared.body.Class.TheVariants as class
use Rattle.cad_versions.specs.declared.command.Command.{Command}
use Rattle.cad_versions.specs.declared.object_id.ObjectId.{ObjectId}
use Rattle.cad_versions.specs.BodyParts.{name_in, unit_named, party_named}
use Rattle.cad_versions.specs.Class.{class_of, class_number}
use Rattle.cad_versions.specs.Command.{object_named}
use Rattle.cad_versions.specs.Identifiers.{by_identifier as by_version}
use Rattle.cad_versions.specs.lemmas.ListLemmas.{all_weaker, filter-map, filter_fewer}
use Rattle.cad_versions.specs.Refusals.{class_at, is_class, is_entered, most_versions}
use Rattle.cad_versions.specs.Sorting.{sort_by}
use Rattle.cad_versions.specs.lemmas.SortLemmas.{all_sorted, length-sort_by}
use Rattle.cad_versions.specs.VersionedObject.{VersionedObject}
use Rattle.cad_versions.specs.Versions.{is_of, history, begun, next_number}
use Rattle.cad_schema.specs.declared.attribute.Attribute.{Attribute}
use Rattle.cad_schema.specs.declared.attribute.Attribute.TheVariants as attribute
use Rattle.cad_schema.specs.declared.collection.Collection.{Collection}
use Rattle.cad_schema.specs.declared.collection.Collection.TheVariants.{Units, Parties}
use Rattle.cad_schema.specs.Attributes.{attributes_of}
use Rattle.cad_feature.specs.Periods.{always}
use Rattle.cad_feature.specs.Features.{Item, datum_at}
use Rattle.cad_feature.specs.Flatten.{class_for, is_in, joined_name, or_null, as_text, value_in, feature_in, features_in}
use Rattle.cad_feature.specs.Lifespans.{is_up_to, holds_on}
use Rattle.cad_layer.specs.Identifiers.{is_item_of, of_object}
use Rattle.cad_changes.specs.Changes.{next, renames_on, is_object, feature_if_in}
use Rattle.cad_changes.specs.Touching.{or_old, edited_datum, edited_data, edited, begins_by, has_day, name_of, name_among, count_of, begun_after, names_joined, item_of}
use Rattle.cad_changes.proofs.ClassLemmas.{AreOf, Adds, ClassesStand, are_of, same_class_at, below, no_unit, no_party}
use Rattle.cad_changes.proofs.FeatureLemmas.{name_next}
use Rattle.cad_changes.proofs.ItemLemmas.{first_is, last_is, edited_is}
use Rattle.cad_changes.proofs.TestLemmas.{filter_in}
use Rattle.cad_changes.proofs.VersionLemmas.{AddsNew}

-- ---- the features of one object

-- all versions of the object are of the collection
abbrev pub AreIn : Collection → ObjectId → List VersionedObject → Type 0
AreIn collection object vs = AllByRecursion (λ w. is_of object w ≡ true → is_in collection w ≡ true) vs

object_is : (collection : Collection) (object : ObjectId) (vs : List VersionedObject) → AreIn collection object vs → of_object object (features_in vs collection) ≡ map (feature_in vs collection) (history object vs)
object_is collection object vs inside =
    filter-map (is_item_of object) (feature_in vs collection) (filter (is_in collection) vs)
    ∙ ap (map (feature_in vs collection)) (filter_in (is_of object) (is_in collection) vs inside)

count_is : (collection : Collection) (object : ObjectId) (vs : List VersionedObject) → AreIn collection object vs → count_of object (features_in vs collection) ≡ length (history object vs)
count_is collection object vs inside = ap length (object_is collection object vs inside) ∙ length-map (history object vs) (feature_in vs collection)

-- ---- names

find_mapped : {A B : Type 0} (p : B → Bool) (q : A → Bool) (f : A → B) → ((a : A) → p (f a) ≡ q a) → (as_all : List A) → find p (map f as_all) ≡ option_map f (find q as_all)
find_mapped p q f same [] = refl
find_mapped p q f same (a ∷ rest) = ap₂ (λ b l. cond b (Some (f a)) l) (same a) (find_mapped p q f same rest) ∙ go (q a)
  where
    go : (b : Bool) → cond b (Some (f a)) (option_map f (find q rest)) ≡ option_map f (cond b (Some a) (find q rest))
    go true = refl
    go false = refl

has_day_is : (vs : List VersionedObject) (collection : Collection) (day : Day) (v : VersionedObject) → has_day day (feature_in vs collection v) ≡ holds_on day v
has_day_is vs collection day v = ap₂ (λ (f l : Option Day). begins_by f day && is_up_to l day) (first_is vs v collection) (last_is vs v collection)

name_is : (vs : List VersionedObject) (collection : Collection) → ((v : VersionedObject) → datum_at (feature_in vs collection v) 5 ≡ or_null as_text (name_in v.body)) → (day : Day) (object : ObjectId) → AreIn collection object vs
    → name_among (features_in vs collection) day object ≡ or_null as_text (joined_name vs day (Some object))
name_is vs collection said day object inside =
    ap (λ xs. name_of (find (has_day day) xs)) (object_is collection object vs inside)
    ∙ ap name_of (find_mapped (has_day day) (holds_on day) (feature_in vs collection) (has_day_is vs collection day) (history object vs))
    ∙ go (find (holds_on day) (history object vs))
  where
    go : (o : Option VersionedObject) → name_of (option_map (feature_in vs collection) o) ≡ or_null as_text (option_and_then (λ (v : VersionedObject). name_in v.body) o)
    go None = refl
    go (Some v) = said v

pub unit_name_is : (vs : List VersionedObject) (day : Day) (object : ObjectId) → AreIn Units object vs → name_among (features_in vs Units) day object ≡ or_null as_text (joined_name vs day (Some object))
unit_name_is vs = name_is vs Units (λ v. refl)

pub party_name_is : (vs : List VersionedObject) (day : Day) (object : ObjectId) → AreIn Parties object vs → name_among (features_in vs Parties) day object ≡ or_null as_text (joined_name vs day (Some object))
party_name_is vs = name_is vs Parties (λ v. refl)

-- ---- what a body that is added names

through : (a b k : ℕ) → (a == b) ≡ true → (b == k) ≡ true → (a == k) ≡ true
through a b k h g = grind (arith, nat_tests)

-- it is another object than this one, whose versions are all of this class
pub record IsNamed (number : ℕ) (object : ObjectId) (vs : List VersionedObject) (named : ObjectId) : Type 0 where
  pub all : AreOf number named vs
  pub other : is_object object (Some named) ≡ false

-- a body that may be added as the next version of the object
pub record Addition (vs : List VersionedObject) (object : ObjectId) (body : Body) : Type 0 where
  pub own : AreOf (class_number (class_of body)) object vs
  pub unit : (named : ObjectId) → unit_named body ≡ Some named → IsNamed 2 object vs named
  pub party : (named : ObjectId) → party_named body ≡ Some named → IsNamed 1 object vs named
  pub room : nat_le most_versions (length vs) ≡ false

is_named : (vs : List VersionedObject) (object : ObjectId) (body : Body) (k : Class) (o : Option ObjectId) (named : ObjectId) → ClassesStand vs → Adds vs object body → is_entered vs k o ≡ true → o ≡ Some named
    → ((class_number (class_of body) == class_number k) ≡ true → o ≡ None) → IsNamed (class_number k) object vs named
is_named vs object body k o named all adds entered is none = record {
  all = are_of k named vs all here;
  other = go (is_object object (Some named)) refl;
}
  where
    here : is_class k (class_at vs named) ≡ true
    here = subst (λ (p : Option ObjectId). is_entered vs k p ≡ true) is entered

    go : (b : Bool) → is_object object (Some named) ≡ b → b ≡ false
    go true e = absurd (never (sym (none (adds.no_other k (subst (λ (l : Option Class). is_class k l ≡ true) (same_class_at vs named object e) here))) ∙ is))
      where
        never : None ≡ Some named → ⊥
        never e = absurd cc
    go false e = refl

pub addition : (vs : List VersionedObject) (object : ObjectId) (body : Body) → ClassesStand vs → Adds vs object body → Addition vs object body
addition vs object body all adds = record {
  own = adds.own;
  unit = λ named e. is_named vs object body class.Unit (unit_named body) named all adds adds.unit e (λ h. no_unit body (below (class_number (class_of body)) 2 3 h refl));
  party = λ named e. is_named vs object body class.Party (party_named body) named all adds adds.party e (λ h. no_party body (below (class_number (class_of body)) 1 4 h refl));
  room = adds.room;
}

-- the same of the versions in their order
pub sorted_addition : (vs : List VersionedObject) (object : ObjectId) (body : Body) → Addition vs object body → Addition (sort_by by_version vs) object body
sorted_addition vs object body a = record {
  own = all_sorted by_version (λ (w : VersionedObject). is_of object w ≡ true → (class_number (class_of w.body) == class_number (class_of body)) ≡ true) vs a.own;
  unit = λ named e. sorted_named 2 named (a.unit named e);
  party = λ named e. sorted_named 1 named (a.party named e);
  room = ap (nat_le most_versions) (length-sort_by by_version vs) ∙ a.room;
}
  where
    sorted_named : (number : ℕ) (named : ObjectId) → IsNamed number object vs named → IsNamed number object (sort_by by_version vs) named
    sorted_named number named n = record {
      all = all_sorted by_version (λ (w : VersionedObject). is_of named w ≡ true → (class_number (class_of w.body) == number) ≡ true) vs n.all;
      other = n.other;
    }

-- ---- the feature that is added

has_room : (count all most : ℕ) → count ≤ all → nat_le most all ≡ false → nat_lt count most ≡ true
has_room count all most h full = grind (arith, nat_tests)

module _ (vs : List VersionedObject) (c : Command) (new : AddsNew vs c) where
  -- a name that is joined with what is added
  named_value : (xs : List Item) (alone : List VersionedObject) (day : Day) (o : Option ObjectId)
      → ((named : ObjectId) → o ≡ Some named → (name_among xs day named ≡ or_null as_text (joined_name vs day (Some named))) × (is_object (object_named c) (Some named) ≡ false))
      → or_old (option_map (name_among xs day) o) (or_null as_text (joined_name alone day o)) ≡ or_null as_text (joined_name (next vs c) day o)
  named_value xs alone day None facts = refl
  named_value xs alone day (Some named) facts =
      let f = facts named refl in
      f.0 ∙ ap (or_null as_text) (sym (name_next vs c new day (Some named) (ap (λ b. renames_on c day && b) f.1 ∙ and-false (renames_on c day))))

  module _ (v : VersionedObject) (facts : Addition vs (object_named c) v.body) where
    value_added : (a : Attribute) → edited_datum (names_joined (features_in vs Units) (features_in vs Parties) v) (Some v.first) a (value_in (v ∷ []) v a) ≡ value_in (next vs c) v a
    value_added attribute.Object = refl
    value_added attribute.Number = refl
    value_added attribute.Begin = refl
    value_added attribute.End = refl
    value_added attribute.Lifespan = refl
    value_added attribute.Name = refl
    value_added attribute.Type = refl
    value_added attribute.Label = refl
    value_added attribute.Area = refl
    value_added attribute.Geometry = refl
    value_added attribute.ReferencePoint = refl
    value_added attribute.Unit = refl
    value_added attribute.UnitName =
        named_value (features_in vs Units) (v ∷ []) v.first (unit_named v.body) (λ named e. let n = facts.unit named e in (unit_name_is vs v.first named n.all, n.other))
    value_added attribute.Party = refl
    value_added attribute.PartyName =
        named_value (features_in vs Parties) (v ∷ []) v.first (party_named v.body) (λ named e. let n = facts.party named e in (party_name_is vs v.first named n.all, n.other))
    value_added attribute.ShareNum = refl
    value_added attribute.ShareDen = refl
    value_added attribute.PartyRequired = refl

    feature_is : (collection : Collection) → edited (names_joined (features_in vs Units) (features_in vs Parties) v) collection (feature_in (v ∷ []) collection v) ≡ feature_in (next vs c) collection v
    feature_is collection = λ i. record {
      object = v.object;
      number = v.number;
      values = ((λ j. edited_data (names_joined (features_in vs Units) (features_in vs Parties) v) (first_is (v ∷ []) v collection j) (attributes_of collection) (map (value_in (v ∷ []) v) (attributes_of collection)))
          ∙ edited_is (names_joined (features_in vs Units) (features_in vs Parties) v) (Some v.first) (value_in (v ∷ []) v) (value_in (next vs c) v) (attributes_of collection) value_added) i;
      period = always;
    }

  module _ (first : Day) (body : Body) (collection : Collection) where
    abbrev count : ℕ
    count = count_of (object_named c) (features_in vs collection)

    abbrev version : ℕ → VersionedObject
    version k = begun (object_named c) k first body

    abbrev seen : VersionedObject → Item
    seen v = edited (names_joined (features_in vs Units) (features_in vs Parties) v) collection (feature_in (v ∷ []) collection v)

    pub added_by : (number : ℕ) → Addition vs (object_named c) body → next_number (object_named c) vs ≡ number
        → option_and_then (item_of (features_in vs Units) (features_in vs Parties) collection) (begun_after (count_of (object_named c) (features_in vs collection)) (object_named c) first body)
        ≡ feature_if_in (next vs c) collection (begun (object_named c) number first body)
    added_by number facts is = go (class_number (class_of body) == class_number (class_for collection)) refl
      where
        go : (b : Bool) → (class_number (class_of body) == class_number (class_for collection)) ≡ b
            → option_and_then (λ v. cond (is_in collection v) (Some (seen v)) None) (cond (nat_lt count most_versions) (Some (version (count + 1))) None) ≡ cond b (Some (feature_in (next vs c) collection (version number))) None
        go true e =
            let inside : AreIn collection (object_named c) vs =
            all_weaker (λ (w : VersionedObject). is_of (object_named c) w ≡ true → (class_number (class_of w.body) == class_number (class_of body)) ≡ true) (λ w. is_of (object_named c) w ≡ true → is_in collection w ≡ true)
            (λ w h own. through (class_number (class_of w.body)) (class_number (class_of body)) (class_number (class_for collection)) (h own) e) vs facts.own in
            let counted = count_is collection (object_named c) vs inside in
            let room : nat_lt count most_versions ≡ true = ap (λ n. nat_lt n most_versions) counted ∙ has_room (length (history (object_named c) vs)) (length vs) most_versions (filter_fewer (is_of (object_named c)) vs) facts.room in
            ap (λ t. option_and_then (λ v. cond (is_in collection v) (Some (seen v)) None) (cond t (Some (version (count + 1))) None)) room
            ∙ ap (λ t. cond t (Some (seen (version (count + 1)))) None) e
            ∙ ap (λ k. Some (seen (version k))) (ap (λ n. n + 1) counted ∙ is)
            ∙ ap Some (feature_is (version number) facts collection)
        go false e = left_out (nat_lt count most_versions)
          where
            left_out : (b : Bool) → option_and_then (λ v. cond (is_in collection v) (Some (seen v)) None) (cond b (Some (version (count + 1))) None) ≡ None
            left_out true = ap (λ t. cond t (Some (seen (version (count + 1)))) None) e
            left_out false = refl
