-- What a version says fits the schema of its collection.
use Rattle.std.proofs.Common.{◌≡◌, ℕ, ◌+◌, ◌≤◌, ◌<◌, suc, List, [], ◌∷◌, length, map, take, Option, refl, ap, subst, get_or, arith}
use Rattle.std.specs.List.{All, AllWithin}
use Rattle.std.proofs.lemmas.List.{take_all, get_or_default}
use Rattle.std.proofs.lemmas.List.Elements.{AllWithin-more}
use Rattle.cad_day.specs.declared.day.Day.{Day}
use Rattle.cad_versions.specs.declared.words.Words.{Words}
use Rattle.cad_versions.specs.BodyParts.{unit_named, party_named}
use Rattle.cad_versions.specs.VersionedObject.{VersionedObject}
use Rattle.cad_schema.specs.declared.attribute.Attribute.{Attribute}
use Rattle.cad_schema.specs.declared.attribute.Attribute.TheVariants as attribute
use Rattle.cad_schema.specs.declared.collection.Collection.{Collection}
use Rattle.cad_schema.specs.declared.property.Property.{Property}
use Rattle.cad_schema.specs.Attributes.{attribute_of, attributes_of, named}
use Rattle.cad_feature.specs.Features.{Item, FitSchema}
use Rattle.cad_feature.specs.Periods.{always}
use Rattle.cad_feature.specs.Flatten.{or_null, as_text, joined_name, value_in, feature_in}
use Rattle.cad_feature.specs.inner.WithNames.{value_with, feature_with}
use Rattle.cad_schema.specs.Schema.{schema_of}
use Rattle.cad_feature.specs.Values.{Datum, IsOfKind}
use Rattle.cad_versions.specs.lemmas.ListLemmas.{map_same}

module _ (value : Attribute → Datum) where
  abbrev pub says : Property → Datum
  says p = value (attribute_of p)

  -- it is of the kind that the attribute has
  abbrev pub Fits : Property → Type 0
  Fits p = IsOfKind (named (attribute_of p)).1 (says p)

  pub fit_more : (ps : List Property) (i : ℕ) (e : Property) → i < length ps → AllWithin Fits ps 0 i → Fits (get_or ps i e) → AllWithin Fits ps 0 (i + 1)
  fit_more ps i e h so_far here = AllWithin-more Fits ps 0 i so_far (λ d. subst Fits (get_or_default ps i e d h) here)

  -- the values of all properties fit the schema that names them
  said_all : (ps : List Property) → map says ps ≡ map value (map attribute_of ps)
  said_all [] = refl
  said_all (p ∷ ps) = rw (said_all ps) refl

  fit_all : (ps : List Property) → All Fits ps → FitSchema (map named (map attribute_of ps)) (map value (map attribute_of ps))
  fit_all [] all = tt
  fit_all (p ∷ ps) all = (all 0 p (omega arith), fit_all ps (λ k d h. all (suc k) d (omega (arith, h))))

pub all_fit : (collection : Collection) (value : Attribute → Datum) (ps : List Property) (i : ℕ) (ds : List Datum) → map attribute_of ps ≡ attributes_of collection → length ps ≤ i → AllWithin (Fits value) ps 0 i → ds ≡ map (says value) (take i ps) → FitSchema (schema_of collection) ds
all_fit collection value ps i ds attributes long fit said =
    let all = fit_all value ps (λ k d h. fit k d (omega arith) (omega (arith, h))) in
    rw (said, take_all i ps long, said_all value ps, ← attributes) all

-- the values of all properties are what the attributes of the collection say
pub all_said : (collection : Collection) (value : Attribute → Datum) (ps : List Property) (i : ℕ) (ds : List Datum) → map attribute_of ps ≡ attributes_of collection → length ps ≤ i → ds ≡ map (says value) (take i ps) → ds ≡ map value (attributes_of collection)
all_said collection value ps i ds attributes long said = rw (said, take_all i ps long, said_all value ps, attributes) refl

-- ---- with names

abbrev pub with_last : VersionedObject → Option Day → VersionedObject
with_last v last = record { object = v.object; number = v.number; first = v.first; last = last; body = v.body }

module _ (vs : List VersionedObject) (v : VersionedObject) (last : Option Day) (unit_name party_name : Option Words) (unit : unit_name ≡ joined_name vs v.first (unit_named v.body)) (party : party_name ≡ joined_name vs v.first (party_named v.body)) where
  value_is : (a : Attribute) → value_with v last unit_name party_name a ≡ value_in vs (with_last v last) a
  value_is attribute.Object = refl
  value_is attribute.Number = refl
  value_is attribute.Begin = refl
  value_is attribute.End = refl
  value_is attribute.Lifespan = refl
  value_is attribute.Name = refl
  value_is attribute.Type = refl
  value_is attribute.Label = refl
  value_is attribute.Area = refl
  value_is attribute.Geometry = refl
  value_is attribute.ReferencePoint = refl
  value_is attribute.Unit = refl
  value_is attribute.UnitName = ap (or_null as_text) unit
  value_is attribute.Party = refl
  value_is attribute.PartyName = ap (or_null as_text) party
  value_is attribute.ShareNum = refl
  value_is attribute.ShareDen = refl
  value_is attribute.PartyRequired = refl

  -- it is the feature of the version with this last day, among versions that give these names
  pub with_is : (collection : Collection) → feature_with v last unit_name party_name collection ≡ feature_in vs collection (with_last v last)
  with_is collection =
      let as_item : List Datum → Item = λ ds. record { object = v.object; number = v.number; values = ds; period = always } in
      ap as_item (map_same (value_with v last unit_name party_name) (value_in vs (with_last v last)) value_is (attributes_of collection))
