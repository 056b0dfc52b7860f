-- Features of a collection (OGC 17-069r4, 7.15: items; own profile: identifiers).
use Rattle.std.specs.Prelude.{ℕ, ℤ, List, slice_index_or}
use Rattle.std.specs.List.{All, AllZip}
use Rattle.std.specs.List.Sorted.{IsStrictlySortedBy}
use Rattle.std.specs.declared.cmp.Ordering.{Ordering}
use Rattle.cad_versions.specs.declared.object_id.ObjectId.{ObjectId}
use Rattle.cad_versions.specs.Objects.{object_number}
use Rattle.cad_versions.specs.Identifiers.{identifier, identifier_cmp, Numbers, IsVersionNumber}
use Rattle.cad_schema.specs.declared.collection.Collection.{Collection}
use Rattle.cad_schema.specs.Attributes.{Named}
use Rattle.cad_schema.specs.Schema.{schema_of}
use Rattle.cad_feature.specs.declared.period.Period.{Period}
use Rattle.cad_feature.specs.Values.{Datum, null, IsOfKind}

-- a feature as definitions see it: a version of an object, with its values in the order of the schema, and the revisions at which it has them
pub record Item : Type 0 where
  pub object : ObjectId
  pub number : ℕ
  pub values : List Datum
  pub period : Period

-- the value of the property at that place of the schema; null past the last property
abbrev pub datum_at : Item → ℕ → Datum
datum_at x i = slice_index_or x.values i null

-- the number of the object, and the number of its version
abbrev pub identifier_of : Item → ℤ × ℤ
identifier_of x = identifier x.object x.number

-- the same numbers, as its text says them
abbrev pub numbers_of : Item → Numbers
numbers_of x = (object_number x.object, x.number)

-- the number of its version is one that a version can have
abbrev pub IsNumbered : Item → Type 0
IsNumbered x = IsVersionNumber x.number

-- by object, and then by version
abbrev pub by_identifier : Item → Item → Ordering
by_identifier x y = identifier_cmp (identifier_of x) (identifier_of y)

-- one value for each property, each of its kind or null
abbrev pub FitSchema : List Named → List Datum → Type 0
FitSchema ps ds = AllZip (λ p d. IsOfKind p.1 d) ps ds

-- its values fit the schema: one of its kind, or null, for each property
pub record IsFeatureOf (collection : Collection) (x : Item) : Type 0 where
  pub fits : FitSchema (schema_of collection) x.values

-- the features of a collection at a revision, as they are listed: no two have one identifier, and they ascend by it
pub record AreFeaturesOf (collection : Collection) (xs : List Item) : Type 0 where
  pub each : All (IsFeatureOf collection) xs
  pub ascending : IsStrictlySortedBy by_identifier xs
