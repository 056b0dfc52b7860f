-- What holds of the features of every register (OGC 17-069r4, 7.15: items; ISO 19152:2012, VersionedObject).
use Rattle.std.specs.Prelude.{◌≡◌, ℕ, ◌≤ℤ◌, List, map, filter, Contains, Option, Some, chars}
use Rattle.std.specs.List.{All}
use Rattle.std.specs.Option.{ForSome}
use Rattle.cad_day.specs.declared.day.Day.{Day}
use Rattle.cad_day.specs.declared.interval.Interval.{Interval}
use Rattle.cad_day.specs.Days.{number_of}
use Rattle.cad_versions.specs.declared.body.Body.{Body}
use Rattle.cad_versions.specs.declared.object_id.ObjectId.{ObjectId}
use Rattle.cad_versions.specs.declared.words.Words.{Words}
use Rattle.cad_versions.specs.BodyParts.{name_in}
use Rattle.cad_versions.specs.Identifiers.{identifier_of as identifier_of_version}
use Rattle.cad_versions.specs.Texts.{bytes_of}
use Rattle.cad_versions.specs.VersionedObject.{VersionedObject, IsVersion}
use Rattle.cad_schema.specs.declared.attribute.Attribute.{Attribute}
use Rattle.cad_schema.specs.declared.attribute.Attribute.TheVariants as attribute
use Rattle.cad_schema.specs.declared.collection.Collection.{Collection}
use Rattle.cad_feature.specs.Features.{identifier_of}
use Rattle.cad_feature.specs.Flatten.{is_in, value_in, features_in}
use Rattle.cad_feature.specs.Values.{null, a_text, a_span}

-- the features of a collection are the versions of its class, by their identifiers
abbrev pub EachVersionIsOneFeature : Collection → Type 0
EachVersionIsOneFeature collection = (vs : List VersionedObject)
    → map identifier_of (features_in vs collection) ≡ map identifier_of_version (filter (is_in collection) vs)

-- the lifespan runs from the first day to the last one, and is open if there is no last day
abbrev pub LifespansAreThoseOfVersions : Type 0
LifespansAreThoseOfVersions = (vs : List VersionedObject) (v : VersionedObject) → IsVersion v
    → (days : Interval) × (value_in vs v attribute.Lifespan ≡ a_span days) × (days.from ≡ Some v.first) × (days.to ≡ v.last)

-- a version that holds the day
pub record HoldsDay (day : Day) (v : VersionedObject) : Type 0 where
  pub begun : number_of v.first ≤ℤ number_of day
  pub lasts : ForSome v.last (λ last. number_of day ≤ℤ number_of last)

-- the object had the name on the day: one of its versions that holds the day says so
pub record WasNamed (vs : List VersionedObject) (day : Day) (object : ObjectId) (words : Words) : Type 0 where
  pub version : VersionedObject
  pub stands : Contains vs version
  pub of_object : version.object ≡ object
  pub holds : HoldsDay day version
  pub says : name_in version.body ≡ Some words

-- a text that is joined is the name that the named object had on the version's first day
abbrev pub NamesAreOfTheFirstDay : (Body → Option ObjectId) → Attribute → Type 0
NamesAreOfTheFirstDay named_by a = (vs : List VersionedObject) (v : VersionedObject) (characters : List ℕ) → value_in vs v a ≡ a_text characters
    → (object : ObjectId) × (words : Words) × (named_by v.body ≡ Some object) × (characters ≡ chars (bytes_of words)) × WasNamed vs v.first object words

-- and no name is joined if no version of the named object holds that day
abbrev pub NoneIsJoinedWithoutVersion : (Body → Option ObjectId) → Attribute → Type 0
NoneIsJoinedWithoutVersion named_by a = (vs : List VersionedObject) (v : VersionedObject) (object : ObjectId) → named_by v.body ≡ Some object
    → All (λ w. w.object ≡ object → ¬ HoldsDay v.first w) vs → value_in vs v a ≡ null
