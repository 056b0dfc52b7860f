-- The values of a feature as JSON: one as its geometry, the others as its properties (RFC 7946, section 3.2: a feature's geometry and properties).
use Rattle.std.specs.Prelude.{ℕ, List, Bool, not, ◌&&◌, map, zip, filter, fold, codes, bytes_eq, encode_utf8_all, find, Option, option_map, unwrap_or}
use Rattle.serde_json.specs.Data.{Data, null as nothing, boolean, number, string, object, Members, no_members, put}
use Rattle.serde_json.specs.Find.{of_integer}
use Rattle.cad_day.specs.Days.{number_of}
use Rattle.cad_day.specs.DayTexts.{day_text}
use Rattle.cad_shape.specs.RegionRings.{rings_of}
use Rattle.cad_schema.specs.Attributes.{Named}
use Rattle.cad_feature.specs.Values.{Datum, null, a_text, a_whole, a_flag, a_day, a_span, a_spot, an_area}
use Rattle.cad_json.specs.Shapes.{polygon_data, spot_data}

-- a value; a day as its text, and an interval as null (own profile)
abbrev pub value_data : Datum → Data
value_data null = nothing
value_data (a_text characters) = string (encode_utf8_all characters)
value_data (a_whole n) = number (of_integer n)
value_data (a_flag b) = boolean b
value_data (a_day day) = string (day_text (number_of day))
value_data (a_span days) = nothing
value_data (a_spot point) = spot_data point
value_data (an_area region) = polygon_data (rings_of region)

-- the values under the names of the schema (own profile: one for each property, in its order)
abbrev pub named_values : List Named → List Datum → List (List ℕ × Datum)
named_values schema values = zip (map (λ p. p.0) schema) values

-- a name among the properties: neither the geometry, nor the lifespan, which begin and end say (own profile)
abbrev pub is_property : List ℕ → Bool
is_property name = not (bytes_eq name (codes "geometry")) && not (bytes_eq name (codes "lifespan"))

-- the members, and one more under its name, in byte order of the names (own profile)
abbrev pub with_property : Members → List ℕ × Datum → Members
with_property members named = put named.0 (value_data named.1) members

-- the properties of a feature, those without a value as null (RFC 7946, section 3.2)
abbrev pub properties_data : List Named → List Datum → Data
properties_data schema values = object (fold with_property no_members (filter (λ named. is_property named.0) (named_values schema values)))

-- the value under a name, if there is one (own profile)
abbrev pub value_named : List ℕ → List (List ℕ × Datum) → Option Datum
value_named name named = option_map (λ (n : List ℕ × Datum). n.1) (find (λ n. bytes_eq n.0 name) named)

-- the geometry, or null if there is no geometry (RFC 7946, section 3.2)
abbrev pub geometry_data : List Named → List Datum → Data
geometry_data schema values = value_data (unwrap_or (value_named (codes "geometry") (named_values schema values)) null)
