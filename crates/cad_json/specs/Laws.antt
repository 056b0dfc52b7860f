-- What the trees of features hold, in terms of the features (RFC 7946, section 3.2: properties and id; own profile).
use Rattle.std.specs.Prelude.{◌≡◌, ℕ, List, Some, None, option_map, if◌then◌else◌, slice_get, IsTrue}
use Rattle.serde_json.specs.Find.{get}
use Rattle.cad_versions.specs.Identifiers.{identifier_text}
use Rattle.cad_schema.specs.declared.collection.Collection.{Collection}
use Rattle.cad_feature.specs.Features.{Item, IsNumbered, IsFeatureOf, identifier_of, numbers_of}
use Rattle.cad_schema.specs.Attributes.{Named}
use Rattle.cad_schema.specs.Schema.{schema_of}
use Rattle.cad_feature.specs.Values.{Datum}
use Rattle.cad_json.specs.Values.{value_data, named_values, is_property, value_named, properties_data}

-- the value in the place of a property is the one under that property's name (own profile)
abbrev pub ValuesStandUnderTheirNames : Type 0
ValuesStandUnderTheirNames =
    (c : Collection) (x : Item) (i : ℕ) (p : Named) (d : Datum)
    → slice_get (schema_of c) i ≡ Some p → slice_get x.values i ≡ Some d
    → value_named p.0 (named_values (schema_of c) x.values) ≡ Some d

-- under a property's name the properties hold the feature's value of that name, and under any other name nothing (own profile)
abbrev pub PropertiesHoldTheValues : Type 0
PropertiesHoldTheValues =
    (c : Collection) (x : Item) (name : List ℕ)
    → get name (properties_data (schema_of c) x.values)
    ≡ (if is_property name then option_map value_data (value_named name (named_values (schema_of c) x.values)) else None)

-- every property of the schema of a feature of the collection is written under its name, except the geometry and the lifespan (OGC
-- 17-069r4, section 7.15: features)
abbrev pub EveryPropertyIsWritten : Type 0
EveryPropertyIsWritten =
    (c : Collection) (x : Item) (i : ℕ) (p : Named)
    → IsFeatureOf c x → slice_get (schema_of c) i ≡ Some p → IsTrue (is_property p.0)
    → (d : Datum) × (slice_get x.values i ≡ Some d) × (get p.0 (properties_data (schema_of c) x.values) ≡ Some (value_data d))

-- two features are written under one identifier only if they have the same identifier (OGC 17-069r4, section 7.16: feature)
abbrev pub IdentifiersAreUnique : Type 0
IdentifiersAreUnique =
    (x y : Item) → IsNumbered x → IsNumbered y → identifier_text (numbers_of x) ≡ identifier_text (numbers_of y) → identifier_of x ≡ identifier_of y
