-- The features of a register (OGC 17-069r4, 7.15: items; ISO 19152:2012, VersionedObject).
use Rattle.std.specs.Prelude.{ℕ, pos, ◌==◌, Bool, List, map, filter, find, Option, Some, None, option_and_then, option_map, chars}
use Rattle.cad_day.specs.declared.day.Day.{Day}
use Rattle.cad_day.specs.Intervals.{interval_of}
use Rattle.cad_versions.specs.declared.body.Class.{Class}
use Rattle.cad_versions.specs.declared.body.Class.TheVariants as class
use Rattle.cad_versions.specs.declared.object_id.ObjectId.{ObjectId}
use Rattle.cad_versions.specs.declared.words.Words.{Words}
use Rattle.cad_versions.specs.BodyParts.{name_in, code_in, label_in, area_in, unit_named, party_named, share_in, required_in, spot_in, shape_in}
use Rattle.cad_versions.specs.Class.{class_of, class_number}
use Rattle.cad_versions.specs.Fractions.{num_of, den_of}
use Rattle.cad_versions.specs.Objects.{object_number}
use Rattle.cad_versions.specs.Texts.{bytes_of}
use Rattle.cad_versions.specs.VersionedObject.{VersionedObject}
use Rattle.cad_versions.specs.Versions.{history}
use Rattle.cad_schema.specs.declared.attribute.Attribute.{Attribute}
use Rattle.cad_schema.specs.declared.attribute.Attribute.TheVariants as attribute
use Rattle.cad_schema.specs.declared.collection.Collection.{Collection}
use Rattle.cad_schema.specs.declared.collection.Collection.TheVariants.{Parcels, Rights, Restrictions, Units, Parties, Responsibilities}
use Rattle.cad_schema.specs.Attributes.{attributes_of}
use Rattle.cad_feature.specs.Features.{Item}
use Rattle.cad_feature.specs.Periods.{always}
use Rattle.cad_feature.specs.Lifespans.{holds_on}
use Rattle.cad_feature.specs.Values.{Datum, null, a_text, a_whole, a_flag, a_day, a_span, a_spot, an_area}

-- the class of a collection's objects
abbrev pub class_for : Collection → Class
class_for Parcels = class.Parcel
class_for Rights = class.Right
class_for Restrictions = class.Restriction
class_for Units = class.Unit
class_for Parties = class.Party
class_for Responsibilities = class.Responsibility

abbrev pub is_in : Collection → VersionedObject → Bool
is_in collection v = class_number (class_of v.body) == class_number (class_for collection)

-- ---- names that are joined

-- the first version of the object, in the order of numbers, that holds the day
abbrev pub version_on : List VersionedObject → Day → ObjectId → Option VersionedObject
version_on vs day object = find (holds_on day) (history object vs)

-- the name in that version
abbrev pub name_on : List VersionedObject → Day → ObjectId → Option Words
name_on vs day object = option_and_then (λ v. name_in v.body) (version_on vs day object)

abbrev pub joined_name : List VersionedObject → Day → Option ObjectId → Option Words
joined_name vs day object = option_and_then (name_on vs day) object

-- ---- values

abbrev pub or_null : {X : Type 0} → (X → Datum) → Option X → Datum
or_null value None = null
or_null value (Some x) = value x

-- the characters of the words
abbrev pub as_text : Words → Datum
as_text words = a_text (chars (bytes_of words))

abbrev pub as_whole : ℕ → Datum
as_whole n = a_whole (pos n)

-- what a version says; names are joined on its first day
abbrev pub value_in : List VersionedObject → VersionedObject → Attribute → Datum
value_in vs v attribute.Object = as_whole (object_number v.object)
value_in vs v attribute.Number = as_whole v.number
value_in vs v attribute.Begin = a_day v.first
value_in vs v attribute.End = or_null a_day v.last
value_in vs v attribute.Lifespan = or_null a_span (interval_of (Some v.first) v.last)
value_in vs v attribute.Name = or_null as_text (name_in v.body)
value_in vs v attribute.Type = or_null as_text (code_in v.body)
value_in vs v attribute.Label = or_null as_text (label_in v.body)
value_in vs v attribute.Area = or_null as_whole (area_in v.body)
value_in vs v attribute.Geometry = or_null an_area (shape_in v.body)
value_in vs v attribute.ReferencePoint = or_null a_spot (spot_in v.body)
value_in vs v attribute.Unit = or_null as_whole (option_map object_number (unit_named v.body))
value_in vs v attribute.UnitName = or_null as_text (joined_name vs v.first (unit_named v.body))
value_in vs v attribute.Party = or_null as_whole (option_map object_number (party_named v.body))
value_in vs v attribute.PartyName = or_null as_text (joined_name vs v.first (party_named v.body))
value_in vs v attribute.ShareNum = or_null as_whole (option_map num_of (share_in v.body))
value_in vs v attribute.ShareDen = or_null as_whole (option_map den_of (share_in v.body))
value_in vs v attribute.PartyRequired = or_null a_flag (required_in v.body)

-- ---- features

-- the version as a feature of the collection, among these versions; they say nothing of other revisions, so its period has all
abbrev pub feature_in : List VersionedObject → Collection → VersionedObject → Item
feature_in vs collection v = record { object = v.object; number = v.number; values = map (value_in vs v) (attributes_of collection); period = always }

-- one feature for each version of the collection's class, in their order
abbrev pub features_in : List VersionedObject → Collection → List Item
features_in vs collection = map (feature_in vs collection) (filter (is_in collection) vs)
