-- What a path names (OGC 17-069r4, section 7.2: landing page, 7.13: collections, 7.15: features, 7.16: feature; OGC 19-079r2, section 6.2: queryables).
use Rattle.std.specs.Prelude.{ℕ, List, [], ◌∷◌, ◌++◌, codes, ◌==◌, Option, Some, None, option_map, if◌then◌else◌}
use Rattle.std.specs.List.{slice_split}
use Rattle.std.specs.Option.{option_and_then}
use Rattle.std.specs.Str.{bytes_eq}
use Rattle.cad_schema.specs.declared.collection.Collection.{Collection}
use Rattle.cad_schema.specs.Collections.{collection_named, name_of}

-- what a path names, with the collection as a text of the path or as a known collection
pub data Place (C : Type 0) : Type 0 where
  landing : Place C
  collections : Place C
  collection : C → Place C
  queryables : C → Place C
  items : C → Place C
  item : C → List ℕ → Place C

-- the texts between the slashes of a path (RFC 3986, section 3.3: path)
abbrev pub segments : List ℕ → List (List ℕ)
segments path = slice_split (λ b. b == 47) path

-- below the queryables of a collection there is nothing
abbrev pub below_queryables : List ℕ → List (List ℕ) → Option (Place (List ℕ))
below_queryables c [] = Some (queryables c)
below_queryables c (s ∷ rest) = None

-- below the features of a collection is each of them, under its identifier
abbrev pub below_items : List ℕ → List (List ℕ) → Option (Place (List ℕ))
below_items c [] = Some (items c)
below_items c ([] ∷ rest) = None
below_items c ((b ∷ id) ∷ []) = Some (item c (b ∷ id))
below_items c ((b ∷ id) ∷ s ∷ rest) = None

-- below a collection are its features and its queryables
abbrev pub below_collection : List ℕ → List (List ℕ) → Option (Place (List ℕ))
below_collection c [] = Some (collection c)
below_collection c (s ∷ rest) =
    if bytes_eq s (codes "items") then below_items c rest
    else (if bytes_eq s (codes "queryables") then below_queryables c rest else None)

-- below the collections is each of them, under its name
abbrev pub below_collections : List (List ℕ) → Option (Place (List ℕ))
below_collections [] = Some collections
below_collections ([] ∷ rest) = None
below_collections ((b ∷ c) ∷ rest) = below_collection (b ∷ c) rest

-- what is below the first slash
abbrev pub below_root : List (List ℕ) → Option (Place (List ℕ))
below_root [] = None
below_root ([] ∷ []) = Some landing
below_root ([] ∷ s ∷ rest) = None
below_root ((b ∷ s) ∷ rest) = if bytes_eq (b ∷ s) (codes "collections") then below_collections rest else None

-- a path begins with a slash
abbrev pub place_at : List (List ℕ) → Option (Place (List ℕ))
place_at [] = None
place_at ([] ∷ rest) = below_root rest
place_at ((b ∷ s) ∷ rest) = None

-- what a path names, whether or not the collection is known
abbrev pub place_of : List ℕ → Option (Place (List ℕ))
place_of path = place_at (segments path)

-- the same place with its collection known, if it is
abbrev pub known : Place (List ℕ) → Option (Place Collection)
known landing = Some landing
known collections = Some collections
known (collection c) = option_map collection (collection_named c)
known (queryables c) = option_map queryables (collection_named c)
known (items c) = option_map items (collection_named c)
known (item c id) = option_map (λ found. item found id) (collection_named c)

-- the resource that a path names, if there is one
abbrev pub resource_of : List ℕ → Option (Place Collection)
resource_of path = option_and_then known (place_of path)

-- the path of a place
abbrev pub path_of : Place (List ℕ) → List ℕ
path_of landing = codes "/"
path_of collections = codes "/collections"
path_of (collection c) = codes "/collections/" ++ c
path_of (queryables c) = codes "/collections/" ++ c ++ codes "/queryables"
path_of (items c) = codes "/collections/" ++ c ++ codes "/items"
path_of (item c id) = codes "/collections/" ++ c ++ codes "/items/" ++ id

-- the same place by its collection's name
abbrev pub named : Place Collection → Place (List ℕ)
named landing = landing
named collections = collections
named (collection c) = collection (name_of c)
named (queryables c) = queryables (name_of c)
named (items c) = items (name_of c)
named (item c id) = item (name_of c) id
