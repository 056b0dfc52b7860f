-- Links (RFC 8288, section 3; OGC 17-069r4, 5.2: link relations), members in byte order of their names.
use Rattle.std.specs.Prelude.{ℕ, List, codes}
use Rattle.serde_json.specs.Data.{Data, string, array, object, member, no_members, item, no_items}

-- a link to JSON
abbrev pub link_data : List ℕ → List ℕ → Data
link_data href rel =
    object (member (codes "href") (string href)
    (member (codes "rel") (string rel)
    (member (codes "type") (string (codes "application/json")) no_members)))

-- the links of a feature: to itself and to its collection (OGC 17-069r4, 7.16.2)
abbrev pub own_links : List ℕ → List ℕ → Data
own_links own home = array (item (link_data own (codes "self")) (item (link_data home (codes "collection")) no_items))
