-- The properties of the features of a collection (OGC 19-079r2, 6.2: queryables; their names and kinds: own profile).
use Rattle.std.specs.Prelude.{ℕ, ◌+◌, ◌≡◌, List, [], ◌∷◌, map, slice_get, Option, Some, None, if◌then◌else◌}
use Rattle.std.specs.Str.{bytes_eq}
use Rattle.cad_schema.specs.declared.collection.Collection.{Collection}
use Rattle.cad_schema.specs.declared.property.PropertyKind.{PropertyKind}
use Rattle.cad_schema.specs.declared.property.Property.{Property}
use Rattle.cad_schema.specs.Attributes.{Named, named, attributes_of}

abbrev pub property_of : Property → Named
property_of p = (p.name.now, p.kind)

-- the names and kinds of what a feature of the collection says, in the order of its values
abbrev pub schema_of : Collection → List Named
schema_of collection = map named (attributes_of collection)

abbrev pub find_from : ℕ → List Named → List ℕ → Option (ℕ × PropertyKind)
find_from place [] name = None
find_from place (p ∷ ps) name = if bytes_eq p.0 name then Some (place, p.1) else find_from (place + 1) ps name

-- the property that has the name: its place and its kind
abbrev pub find : List Named → List ℕ → Option (ℕ × PropertyKind)
find ps name = find_from 0 ps name

-- ---- laws

-- a property that is found has the name and is at its place
abbrev pub FindsWhatStands : List Named → List ℕ → Type 0
FindsWhatStands ps name =
    (place : ℕ) (kind : PropertyKind) → find ps name ≡ Some (place, kind) → slice_get ps place ≡ Some (name, kind)

-- and each property is found by its name: no name occurs twice
abbrev pub StandsOnce : List Named → Type 0
StandsOnce ps =
    (place : ℕ) (name : List ℕ) (kind : PropertyKind) → slice_get ps place ≡ Some (name, kind) → find ps name ≡ Some (place, kind)
