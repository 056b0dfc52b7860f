-- What the properties of a collection say of a version (ISO 19152:2012, attributes of VersionedObject, LA_Party, LA_BAUnit, LA_SpatialUnit and LA_RRR).
use Rattle.std.specs.Prelude.{ℕ, List, [], ◌∷◌, codes}
use Rattle.cad_schema.specs.declared.attribute.Attribute.{Attribute}
use Rattle.cad_schema.specs.declared.attribute.Attribute.TheVariants as attribute
use Rattle.cad_schema.specs.declared.collection.Collection.{Collection}
use Rattle.cad_schema.specs.declared.collection.Collection.TheVariants.{Parcels, Rights, Restrictions, Units, Parties, Responsibilities}
use Rattle.cad_schema.specs.declared.property.Property.{Property}
use Rattle.cad_schema.specs.declared.property.PropertyKind.{PropertyKind}
use Rattle.cad_schema.specs.declared.property.PropertyKind.TheVariants.{Text, Whole, Flag, Day, Span, Spot, Area}
use Rattle.cad_schema.specs.declared.schemas.ListedProperty.{ListedProperty}

abbrev pub attribute_of : Property → Attribute
attribute_of p = p.attribute

-- a property's name and kind
abbrev pub Named : Type 0
Named = List ℕ × PropertyKind

-- the name and the kind of the property that says it (own profile)
abbrev pub named : Attribute → Named
named attribute.Object = (codes "object", Whole)
named attribute.Number = (codes "number", Whole)
named attribute.Begin = (codes "begin", Day)
named attribute.End = (codes "end", Day)
named attribute.Lifespan = (codes "lifespan", Span)
named attribute.Name = (codes "name", Text)
named attribute.Type = (codes "type", Text)
named attribute.Label = (codes "label", Text)
named attribute.Area = (codes "area", Whole)
named attribute.Geometry = (codes "geometry", Area)
named attribute.ReferencePoint = (codes "reference_point", Spot)
named attribute.Unit = (codes "unit", Whole)
named attribute.UnitName = (codes "unit_name", Text)
named attribute.Party = (codes "party", Whole)
named attribute.PartyName = (codes "party_name", Text)
named attribute.ShareNum = (codes "share_num", Whole)
named attribute.ShareDen = (codes "share_den", Whole)
named attribute.PartyRequired = (codes "party_required", Flag)

-- of every version
abbrev pub and_lifespan : List Attribute → List Attribute
and_lifespan more = attribute.Object ∷ attribute.Number ∷ attribute.Begin ∷ attribute.End ∷ attribute.Lifespan ∷ more

-- of a right, a responsibility and a restriction
abbrev pub and_right : List Attribute → List Attribute
and_right more =
    attribute.Type ∷ attribute.ShareNum ∷ attribute.ShareDen ∷ attribute.Unit ∷ attribute.UnitName ∷ attribute.Party ∷ attribute.PartyName ∷ more

-- what a feature of the collection says, in the order of its values
abbrev pub attributes_of : Collection → List Attribute
attributes_of Parcels =
    and_lifespan (attribute.Label ∷ attribute.Area ∷ attribute.Geometry ∷ attribute.ReferencePoint ∷ attribute.Unit ∷ attribute.UnitName ∷ [])
attributes_of Rights = and_lifespan (and_right [])
attributes_of Restrictions = and_lifespan (and_right (attribute.PartyRequired ∷ []))
attributes_of Units = and_lifespan (attribute.Name ∷ [])
attributes_of Parties = and_lifespan (attribute.Name ∷ attribute.Type ∷ [])
attributes_of Responsibilities = and_lifespan (and_right [])

-- ---- what a feature lists

-- the name of a property, and the place of its value
abbrev pub Listed : Type 0
Listed = List ℕ × ℕ

abbrev pub listed_of : ListedProperty → Listed
listed_of p = (p.name.now, p.place)

abbrev pub and_share : List Listed → List Listed
and_share more =
    (codes "share_den", 7) ∷ (codes "share_num", 6) ∷ (codes "type", 5) ∷ (codes "unit", 8) ∷ (codes "unit_name", 9) ∷ more

-- what a feature of the collection lists: all but the geometry and the lifespan, in byte order of the names (RFC 7946, 3.2)
abbrev pub in_byte_order : Collection → List Listed
in_byte_order Parcels =
    (codes "area", 6) ∷ (codes "begin", 2) ∷ (codes "end", 3) ∷ (codes "label", 5) ∷ (codes "number", 1) ∷ (codes "object", 0) ∷ (codes "reference_point", 8) ∷ (codes "unit", 9) ∷ (codes "unit_name", 10) ∷ []
in_byte_order Rights =
    (codes "begin", 2) ∷ (codes "end", 3) ∷ (codes "number", 1) ∷ (codes "object", 0) ∷ (codes "party", 10) ∷ (codes "party_name", 11) ∷ and_share []
in_byte_order Restrictions =
    (codes "begin", 2) ∷ (codes "end", 3) ∷ (codes "number", 1) ∷ (codes "object", 0) ∷ (codes "party", 10) ∷ (codes "party_name", 11) ∷ (codes "party_required", 12) ∷ and_share []
in_byte_order Units = (codes "begin", 2) ∷ (codes "end", 3) ∷ (codes "name", 5) ∷ (codes "number", 1) ∷ (codes "object", 0) ∷ []
in_byte_order Parties = (codes "begin", 2) ∷ (codes "end", 3) ∷ (codes "name", 5) ∷ (codes "number", 1) ∷ (codes "object", 0) ∷ (codes "type", 6) ∷ []
in_byte_order Responsibilities =
    (codes "begin", 2) ∷ (codes "end", 3) ∷ (codes "number", 1) ∷ (codes "object", 0) ∷ (codes "party", 10) ∷ (codes "party_name", 11) ∷ and_share []
