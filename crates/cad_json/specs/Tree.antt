-- Features as JSON, members in byte order of their names.
use Rattle.std.specs.Prelude.{List, map, codes}
use Rattle.serde_json.specs.Data.{Data, string, array, object, member, no_members}
use Rattle.serde_json.specs.View.{items_of}
use Rattle.cad_versions.specs.Identifiers.{identifier_text}
use Rattle.cad_schema.specs.declared.collection.Collection.{Collection}
use Rattle.cad_feature.specs.Features.{Item, numbers_of}
use Rattle.cad_schema.specs.Schema.{schema_of}
use Rattle.cad_json.specs.Values.{geometry_data, properties_data}

-- a feature of the collection (RFC 7946, section 3.2)
abbrev pub feature_data : Collection → Item → Data
feature_data collection x =
    object (member (codes "geometry") (geometry_data (schema_of collection) x.values)
    (member (codes "id") (string (identifier_text (numbers_of x)))
    (member (codes "properties") (properties_data (schema_of collection) x.values)
    (member (codes "type") (string (codes "Feature")) no_members))))

-- the same with links among its members
abbrev pub feature_with_links : Collection → Item → Data → Data
feature_with_links collection x links =
    object (member (codes "geometry") (geometry_data (schema_of collection) x.values)
    (member (codes "id") (string (identifier_text (numbers_of x)))
    (member (codes "links") links
    (member (codes "properties") (properties_data (schema_of collection) x.values)
    (member (codes "type") (string (codes "Feature")) no_members)))))

-- the features of a list, in its order (RFC 7946, section 3.3)
abbrev pub features_data : Collection → List Item → Data
features_data collection xs = array (items_of (map (feature_data collection) xs))
