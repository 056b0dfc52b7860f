-- Points and regions as JSON, shaped as GeoJSON's geometries (RFC 7946, section 3.1), in whole millimetres of the register's plane (own profile).
use Rattle.std.specs.Prelude.{List, ◌++◌, map, take, codes}
use Rattle.serde_json.specs.Data.{Data, number, string, array, object, member, no_members, item, no_items}
use Rattle.serde_json.specs.View.{items_of}
use Rattle.serde_json.specs.Find.{of_integer}
use Rattle.cad_shape.specs.declared.point.Point.{Point}
use Rattle.cad_shape.specs.declared.ring.Ring.{Ring}
use Rattle.cad_shape.specs.Rings.{corners_of}

-- a position: x and then y (RFC 7946, section 3.1.1)
abbrev pub corner_data : Point → Data
corner_data p = array (item (number (of_integer p.x)) (item (number (of_integer p.y)) no_items))

-- a linear ring: its corners, and the first again (RFC 7946, section 3.1.6)
abbrev pub closed : List Point → List Point
closed corners = corners ++ take 1 corners

abbrev pub ring_data : Ring → Data
ring_data ring = array (items_of (map corner_data (closed (corners_of ring))))

-- a region: a polygon of its exterior ring and then its interior ones (RFC 7946, section 3.1.6)
abbrev pub polygon_data : List Ring → Data
polygon_data rings =
    object (member (codes "coordinates") (array (items_of (map ring_data rings)))
    (member (codes "type") (string (codes "Polygon")) no_members))

-- a point (RFC 7946, section 3.1.2)
abbrev pub spot_data : Point → Data
spot_data p =
    object (member (codes "coordinates") (corner_data p) (member (codes "type") (string (codes "Point")) no_members))
