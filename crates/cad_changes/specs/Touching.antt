-- What a command changes, from the features of the revision before it alone (ISO 19152:2012, VersionedObject; OGC 17-069r4, 7.15: items).
use Rattle.std.specs.Prelude.{ℕ, ◌+◌, ℤ, pos, Bool, true, false, ◌&&◌, ◌||◌, if◌then◌else◌, int_le, nat_lt, List, [], ◌∷◌, length, map, filter, find, codes, Option, Some, None, is_none, option_map, option_and_then}
use Rattle.std.specs.Ordering.{int_eq}
use Rattle.cad_day.specs.declared.day.Day.{Day}
use Rattle.cad_day.specs.Days.{number_of}
use Rattle.cad_day.specs.Intervals.{interval_of}
use Rattle.cad_versions.specs.declared.body.Body.{Body}
use Rattle.cad_versions.specs.declared.command.Command.{Command}
use Rattle.cad_versions.specs.declared.command.Command.TheVariants.{Enter, Amend, Retire}
use Rattle.cad_versions.specs.declared.object_id.ObjectId.{ObjectId}
use Rattle.cad_versions.specs.BodyParts.{name_in, unit_named, party_named}
use Rattle.cad_versions.specs.Command.{object_named, body_added}
use Rattle.cad_day.specs.DayBefore.{day_before}
use Rattle.cad_versions.specs.Objects.{object_number}
use Rattle.cad_versions.specs.Refusals.{most_versions}
use Rattle.cad_versions.specs.VersionedObject.{VersionedObject}
use Rattle.cad_versions.specs.Versions.{begun}
use Rattle.cad_schema.specs.declared.attribute.Attribute.{Attribute}
use Rattle.cad_schema.specs.declared.attribute.Attribute.TheVariants as attribute
use Rattle.cad_schema.specs.declared.collection.Collection.{Collection}
use Rattle.cad_schema.specs.declared.property.PropertyKind.{PropertyKind}
use Rattle.cad_schema.specs.Attributes.{attributes_of}
use Rattle.cad_schema.specs.Schema.{schema_of, find as find_property}
use Rattle.cad_feature.specs.Features.{Item, datum_at, by_identifier}
use Rattle.cad_feature.specs.Flatten.{is_in, or_null, as_text, feature_in}
use Rattle.cad_feature.specs.Lifespans.{is_up_to}
use Rattle.cad_feature.specs.Values.{Datum, null, a_day, a_span}
pub use Rattle.cad_feature.specs.Values.{day_in, whole_in}
use Rattle.cad_layer.specs.Identifiers.{is_item_of, of_object}
use Rattle.cad_layer.specs.Merging.{put_if}
use Rattle.cad_changes.specs.Changes.{renames_on}

-- ---- what a feature says

abbrev pub first_of : Item → Option Day
first_of x = day_in (datum_at x 2)

abbrev pub last_of : Item → Option Day
last_of x = day_in (datum_at x 3)

-- the place of the property with this name in a feature of the collection
abbrev pub place_named : Collection → List ℕ → Option ℕ
place_named collection name = option_map (λ (p : ℕ × PropertyKind). p.0) (find_property (schema_of collection) name)

-- the place of the number of its unit
abbrev pub unit_place : Collection → Option ℕ
unit_place collection = place_named collection (codes "unit")

-- and of the number of its party
abbrev pub party_place : Collection → Option ℕ
party_place collection = place_named collection (codes "party")

abbrev pub number_at : Item → Option ℕ → Option ℤ
number_at x None = None
number_at x (Some place) = whole_in (datum_at x place)

abbrev pub is_numbered : ObjectId → Option ℤ → Bool
is_numbered object None = false
is_numbered object (Some n) = int_eq n (pos (object_number object))

-- ---- values that are different from before

-- the last day, and the names that are joined, if they are new
pub record Edits : Type 0 where
  pub closing : Option Day
  pub unit_name : Option Datum
  pub party_name : Option Datum

abbrev pub or_old : Option Datum → Datum → Datum
or_old None d = d
or_old (Some new) d = new

abbrev pub span_to : Option Day → Day → Datum
span_to first last = or_null a_span (interval_of first (Some last))

abbrev pub edited_datum : Edits → Option Day → Attribute → Datum → Datum
edited_datum e first attribute.Object d = d
edited_datum e first attribute.Number d = d
edited_datum e first attribute.Begin d = d
edited_datum e first attribute.End d = or_old (option_map a_day e.closing) d
edited_datum e first attribute.Lifespan d = or_old (option_map (span_to first) e.closing) d
edited_datum e first attribute.Name d = d
edited_datum e first attribute.Type d = d
edited_datum e first attribute.Label d = d
edited_datum e first attribute.Area d = d
edited_datum e first attribute.Geometry d = d
edited_datum e first attribute.ReferencePoint d = d
edited_datum e first attribute.Unit d = d
edited_datum e first attribute.UnitName d = or_old e.unit_name d
edited_datum e first attribute.Party d = d
edited_datum e first attribute.PartyName d = or_old e.party_name d
edited_datum e first attribute.ShareNum d = d
edited_datum e first attribute.ShareDen d = d
edited_datum e first attribute.PartyRequired d = d

-- a property without a value has null
abbrev pub edited_data : Edits → Option Day → List Attribute → List Datum → List Datum
edited_data e first [] ds = []
edited_data e first (a ∷ rest) [] = edited_datum e first a null ∷ edited_data e first rest []
edited_data e first (a ∷ rest) (d ∷ ds) = edited_datum e first a d ∷ edited_data e first rest ds

-- a feature of the collection with these edits
abbrev pub edited : Edits → Collection → Item → Item
edited e collection x = record { object = x.object; number = x.number; values = edited_data e (first_of x) (attributes_of collection) x.values; period = x.period }

-- ---- features that the command leaves

-- the day on which it closes the open version of its object
abbrev pub closing_day : Command → Option Day
closing_day (Enter object first body) = None
closing_day (Amend object first body) = Some (day_before first)
closing_day (Retire object last) = Some last

abbrev pub is_closing : Command → Bool
is_closing (Enter object first body) = false
is_closing (Amend object first body) = true
is_closing (Retire object last) = true

abbrev pub closes : Command → Item → Bool
closes c x = is_closing c && (is_item_of (object_named c) x && is_none (last_of x))

abbrev pub renames_if : Command → Option Day → Bool
renames_if c None = false
renames_if c (Some day) = renames_on c day

abbrev pub renames : Command → Item → Bool
renames c x = renames_if c (first_of x)

abbrev pub names_unit : Command → Collection → Item → Bool
names_unit c collection x = is_numbered (object_named c) (number_at x (unit_place collection))

abbrev pub names_party : Command → Collection → Item → Bool
names_party c collection x = is_numbered (object_named c) (number_at x (party_place collection))

abbrev pub names_object : Command → Collection → Item → Bool
names_object c collection x = names_unit c collection x || names_party c collection x

-- it is closed, or joined with a name that may be different now
abbrev pub touches : Command → Collection → Item → Bool
touches c collection x = closes c x || (renames c x && names_object c collection x)

-- the name of the object on the days on which the command may change it
abbrev pub name_after : Command → Datum
name_after c = or_null as_text (option_and_then name_in (body_added c))

abbrev pub edits_by : Command → Collection → Item → Edits
edits_by c collection x = record {
  closing = if closes c x then closing_day c else None;
  unit_name = if renames c x && names_unit c collection x then Some (name_after c) else None;
  party_name = if renames c x && names_party c collection x then Some (name_after c) else None;
}

abbrev pub item_left : Command → Collection → Item → Item
item_left c collection x = edited (edits_by c collection x) collection x

abbrev pub items_left : Command → Collection → List Item → List Item
items_left c collection xs = map (item_left c collection) (filter (touches c collection) xs)

-- ---- the feature that it adds

abbrev pub begins_by : Option Day → Day → Bool
begins_by None day = false
begins_by (Some first) day = int_le (number_of first) (number_of day)

abbrev pub has_day : Day → Item → Bool
has_day day x = begins_by (first_of x) day && is_up_to (last_of x) day

-- the name of a unit or a party
abbrev pub name_of : Option Item → Datum
name_of None = null
name_of (Some x) = datum_at x 5

-- the name of the object on the day, among the units or the parties
abbrev pub name_among : List Item → Day → ObjectId → Datum
name_among xs day object = name_of (find (has_day day) (of_object object xs))

-- how many of the features are versions of the object
abbrev pub count_of : ObjectId → List Item → ℕ
count_of object xs = length (of_object object xs)

-- the number of the version after so many versions, if it may have one
abbrev pub number_after : ℕ → Option ℕ
number_after count = if nat_lt count most_versions then Some (count + 1) else None

abbrev pub begun_after : ℕ → ObjectId → Day → Body → Option VersionedObject
begun_after count object first body = if nat_lt count most_versions then Some (begun object (count + 1) first body) else None

-- the version that the command adds, by the features of its object's collection
abbrev pub version_begun : List Item → Command → Option VersionedObject
version_begun xs (Enter object first body) = begun_after (count_of object xs) object first body
version_begun xs (Amend object first body) = begun_after (count_of object xs) object first body
version_begun xs (Retire object last) = None

abbrev pub names_joined : List Item → List Item → VersionedObject → Edits
names_joined units parties v = record {
  closing = None;
  unit_name = option_map (name_among units v.first) (unit_named v.body);
  party_name = option_map (name_among parties v.first) (party_named v.body);
}

-- its feature, if it is of the collection
abbrev pub item_of : List Item → List Item → Collection → VersionedObject → Option Item
item_of units parties collection v = if is_in collection v then Some (edited (names_joined units parties v) collection (feature_in (v ∷ []) collection v)) else None

abbrev pub item_added : List Item → List Item → List Item → Command → Collection → Option Item
item_added xs units parties c collection = option_and_then (item_of units parties collection) (version_begun xs c)

-- ---- all of them

-- the features of the collection that are new after the command, or may be different from before: by those of the collection, the units and
-- the parties before it
abbrev pub items_touched : List Item → List Item → List Item → Command → Collection → List Item
items_touched xs units parties c collection = put_if by_identifier (item_added xs units parties c collection) (items_left c collection xs)
