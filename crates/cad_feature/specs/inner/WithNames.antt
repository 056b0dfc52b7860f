-- What a version says with a given last day, and with given names of its unit and its party (own profile).
use Rattle.std.specs.Prelude.{[], map, Option, Some}
use Rattle.cad_day.specs.declared.day.Day.{Day}
use Rattle.cad_day.specs.Intervals.{interval_of}
use Rattle.cad_versions.specs.declared.words.Words.{Words}
use Rattle.cad_versions.specs.VersionedObject.{VersionedObject}
use Rattle.cad_schema.specs.declared.attribute.Attribute.{Attribute}
use Rattle.cad_schema.specs.declared.attribute.Attribute.TheVariants as attribute
use Rattle.cad_schema.specs.declared.collection.Collection.{Collection}
use Rattle.cad_schema.specs.Attributes.{attributes_of}
use Rattle.cad_feature.specs.Features.{Item}
use Rattle.cad_feature.specs.Flatten.{or_null, as_text, value_in}
use Rattle.cad_feature.specs.Periods.{always}
use Rattle.cad_feature.specs.Values.{Datum, a_day, a_span}

-- all else is what the version itself says
abbrev pub value_with : VersionedObject → Option Day → Option Words → Option Words → Attribute → Datum
value_with v last unit_name party_name attribute.End = or_null a_day last
value_with v last unit_name party_name attribute.Lifespan = or_null a_span (interval_of (Some v.first) last)
value_with v last unit_name party_name attribute.UnitName = or_null as_text unit_name
value_with v last unit_name party_name attribute.PartyName = or_null as_text party_name
value_with v last unit_name party_name a = value_in [] v a

abbrev pub feature_with : VersionedObject → Option Day → Option Words → Option Words → Collection → Item
feature_with v last unit_name party_name collection =
    record { object = v.object; number = v.number; values = map (value_with v last unit_name party_name) (attributes_of collection); period = always }
