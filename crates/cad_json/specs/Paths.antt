-- The paths of a collection's resources (OGC 17-069r4, 7.14: collection, 7.15: its features; OGC 19-079r2, 6.2: queryables).
use Rattle.std.specs.Prelude.{ℕ, List, ◌++◌, codes}
use Rattle.cad_schema.specs.declared.collection.Collection.{Collection}
use Rattle.cad_schema.specs.Collections.{name_of}

abbrev pub collection_path : Collection → List ℕ
collection_path c = codes "/collections/" ++ name_of c

abbrev pub items_path : Collection → List ℕ
items_path c = collection_path c ++ codes "/items"

abbrev pub queryables_path : Collection → List ℕ
queryables_path c = collection_path c ++ codes "/queryables"
