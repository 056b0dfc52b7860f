-- What the server offers (OGC 17-069r4, 7.2: landing page, 7.13: collections), members in byte order of their names.
use Rattle.std.specs.Prelude.{map, codes}
use Rattle.serde_json.specs.Data.{Data, string, array, object, member, no_members, item, no_items}
use Rattle.serde_json.specs.View.{items_of}
use Rattle.cad_schema.specs.declared.collection.Collection.{Collection}
use Rattle.cad_schema.specs.Collections.{collections, name_of}
use Rattle.cad_json.specs.Links.{link_data}
use Rattle.cad_json.specs.Paths.{items_path, queryables_path}

-- the landing page: where the collections are
abbrev pub landing_data : Data
landing_data =
    object (member (codes "links") (array (item (link_data (codes "/") (codes "self")) (item (link_data (codes "/collections") (codes "data")) no_items)))
    (member (codes "title") (string (codes "Cadastre")) no_members))

-- where the features of a collection are, and its queryables
abbrev pub collection_links : Collection → Data
collection_links c = array (item (link_data (items_path c) (codes "items")) (item (link_data (queryables_path c) (codes "queryables")) no_items))

-- a collection; its title is its name
abbrev pub collection_data : Collection → Data
collection_data c =
    object (member (codes "id") (string (name_of c))
    (member (codes "itemType") (string (codes "feature"))
    (member (codes "links") (collection_links c)
    (member (codes "title") (string (name_of c)) no_members))))

-- all of them, and the link to the list itself
abbrev pub collections_data : Data
collections_data =
    object (member (codes "collections") (array (items_of (map collection_data collections)))
    (member (codes "links") (array (item (link_data (codes "/collections") (codes "self")) no_items)) no_members))
