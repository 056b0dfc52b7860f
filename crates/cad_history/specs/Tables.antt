-- Tables with an entry for each collection, in the order in which collections are listed (own profile).
use denote.Enum.Declared.{tag_of}
use Rattle.std.specs.Prelude.{◌≡◌, ℕ, List}
use Rattle.std.specs.List.{slice_index_or}
use Rattle.cad_schema.specs.Collections.{collections}
use Rattle.cad_schema.specs.declared.collection.Collection.{Collection}
use Rattle.cad_schema.specs.contracts.collection.Collection.{the_type}

-- the collection's place in that order, which is `collection as usize`
abbrev pub place_of : Collection → ℕ
place_of = tag_of the_type

-- the collection's entry; a table of all collections has one, and no default is needed
abbrev pub entry_of : {X : Type 0} → X → List X → Collection → X
entry_of default table collection = slice_index_or table (place_of collection) default

-- ---- law

-- in the table of the collections themselves, each is the entry at its own place
abbrev pub EachHasItsPlace : Type 0
EachHasItsPlace = (default collection : Collection) → entry_of default collections collection ≡ collection
