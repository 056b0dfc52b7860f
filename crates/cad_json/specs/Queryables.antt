-- The properties that filters may name, as a JSON Schema (OGC 19-079r2, 6.2: queryables; the format interval and a path as $id: own profile), members in byte order of their names.
use Rattle.std.specs.Prelude.{ℕ, List, fold, codes, false}
use Rattle.serde_json.specs.Data.{Data, boolean, string, object, Members, member, no_members, put}
use Rattle.cad_schema.specs.declared.collection.Collection.{Collection}
use Rattle.cad_schema.specs.declared.property.PropertyKind.{PropertyKind}
use Rattle.cad_schema.specs.declared.property.PropertyKind.TheVariants.{Text, Whole, Flag, Day, Span, Spot, Area}
use Rattle.cad_schema.specs.Attributes.{Named}
use Rattle.cad_schema.specs.Schema.{schema_of}
use Rattle.cad_json.specs.Paths.{queryables_path}

-- a value of a type of JSON
abbrev pub type_data : List ℕ → Data
type_data name = object (member (codes "type") (string name) no_members)

-- a value of a format
abbrev pub format_data : List ℕ → Data
format_data name = object (member (codes "format") (string name) no_members)

-- the schema of a value of the kind
abbrev pub kind_data : PropertyKind → Data
kind_data Text = type_data (codes "string")
kind_data Whole = type_data (codes "integer")
kind_data Flag = type_data (codes "boolean")
kind_data Day = object (member (codes "format") (string (codes "date")) (member (codes "type") (string (codes "string")) no_members))
kind_data Span = format_data (codes "interval")
kind_data Spot = format_data (codes "geometry-point")
kind_data Area = format_data (codes "geometry-polygon")

-- the members, and one more for a property, in byte order of the names
abbrev pub with_queryable : Members → Named → Members
with_queryable members property = put property.0 (kind_data property.1) members

-- each property of the schema under its name
abbrev pub properties_schema : List Named → Data
properties_schema schema = object (fold with_queryable no_members schema)

-- the schema of a collection's features, which have no other properties
abbrev pub queryables_data : Collection → Data
queryables_data c =
    object (member (codes "$id") (string (queryables_path c))
    (member (codes "$schema") (string (codes "https://json-schema.org/draft/2020-12/schema"))
    (member (codes "additionalProperties") (boolean false)
    (member (codes "properties") (properties_schema (schema_of c))
    (member (codes "type") (string (codes "object")) no_members)))))
