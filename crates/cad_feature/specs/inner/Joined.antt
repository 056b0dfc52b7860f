-- The attributes of a version that are names of other objects (own profile).
use Rattle.std.specs.Prelude.{Bool, true, false}
use Rattle.std.specs.List.{list_any}
use Rattle.cad_schema.specs.declared.attribute.Attribute.{Attribute}
use Rattle.cad_schema.specs.declared.attribute.Attribute.TheVariants as attribute
use Rattle.cad_schema.specs.declared.collection.Collection.{Collection}
use Rattle.cad_schema.specs.Attributes.{attributes_of}

abbrev pub is_joined : Attribute → Bool
is_joined attribute.UnitName = true
is_joined attribute.PartyName = true
is_joined a = false

-- features of the collection have names of other objects
abbrev pub joins_names : Collection → Bool
joins_names collection = list_any is_joined (attributes_of collection)
