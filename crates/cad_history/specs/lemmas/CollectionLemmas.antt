-- Tables with an entry for each collection.
use denote.Enum.Bare.{sameb, same_true}
use Rattle.std.proofs.Common.{◌≡◌, ◌∙◌, ◌<◌, length, map, nat_lt, refl, sym, subst, ap, All}
use Rattle.std.proofs.Math.ListN.{get_or-map}
use Rattle.std.proofs.lemmas.Bool.{ltb-true}
use Rattle.std.proofs.lemmas.List.{get_or-map as mapped_entry}
use Rattle.std.proofs.lemmas.List.Elements.{All-get_or}
use Rattle.cad_schema.specs.Collections.{collections}
use Rattle.cad_schema.specs.contracts.collection.Collection.{the_type}
use Rattle.cad_schema.specs.declared.collection.Collection.{Collection}
use Rattle.cad_schema.specs.lemmas.NameLemmas.{each_passes}
use Rattle.cad_history.specs.Histories.{AreInOrder, RegisterRows}
use Rattle.cad_history.specs.Rows.{Rows}
use Rattle.cad_history.specs.Tables.{entry_of, place_of}

-- the collection is at its place
pub is_placed : (collection default : Collection) → entry_of default collections collection ≡ collection
is_placed collection default =
    same_true the_type tt (entry_of default collections collection) collection
    (each_passes (λ c. sameb the_type (entry_of default collections c) c) refl collection)

in_range : (collection : Collection) → place_of collection < length collections
in_range collection = ltb-true (place_of collection) 6 (each_passes (λ c. nat_lt (place_of c) 6) refl collection)

-- what holds of all that are listed holds of each collection
pub of_all : (P : Collection → Type 0) → All P collections → (collection : Collection) → P collection
of_all P all collection = subst P (is_placed collection collection) (All-get_or P collections (place_of collection) collection (in_range collection) all)

-- the entries of a table that is made of the collections
pub entry_made : {X : Type 0} (default : X) (made : Collection → X) (collection : Collection) → entry_of default (map made collections) collection ≡ made collection
entry_made default made collection = mapped_entry made collections (place_of collection) collection default (in_range collection) ∙ ap made (is_placed collection collection)

-- in a table of rows in the order of their collections, the rows at a collection's place are its own
pub own_rows : (all : RegisterRows) (collection : Collection) (default : Rows) → AreInOrder all → (entry_of default all collection).collection ≡ collection
own_rows all collection default are =
    sym (get_or-map (λ (rows : Rows). rows.collection) all (place_of collection) default)
    ∙ ap (λ cs. entry_of default.collection cs collection) are ∙ is_placed collection default.collection
