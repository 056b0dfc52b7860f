-- The indexes of features (own profile): each property of an ordered kind by its values, each shape by its cells.
use Rattle.std.specs.Prelude.{◌≡◌, ℕ, ◌+◌, List, [], ◌∷◌, length, get_or, Option, Some, None}
use Rattle.cad_schema.specs.declared.collection.Collection.{Collection}
use Rattle.cad_schema.specs.declared.property.PropertyKind.{PropertyKind}
use Rattle.cad_schema.specs.declared.property.PropertyKind.TheVariants as kind
use Rattle.cad_feature.specs.Features.{Item}
use Rattle.cad_schema.specs.Attributes.{Named}
use Rattle.cad_schema.specs.Schema.{schema_of}
use Rattle.cad_grid.specs.Blocks.{Block}
use Rattle.cad_grid.specs.Grids.{blocks_at}
use Rattle.cad_ordered.specs.Columns.{Column}
use Rattle.cad_ordered.specs.Ranged.{column}
use Rattle.cad_index.specs.declared.index.Index.{Index}
use Rattle.cad_index.specs.declared.index.Index.TheVariants.{Unindexed, Ordered, Grid}
use Rattle.cad_index.specs.declared.indexes.Indexes.{Indexes}

-- the index of the property at that place
abbrev pub index_of : PropertyKind → ℕ → List Item → Index
index_of kind.Text place xs = Ordered (record { kind = kind.Text; values = column place xs })
index_of kind.Whole place xs = Ordered (record { kind = kind.Whole; values = column place xs })
index_of kind.Flag place xs = Unindexed
index_of kind.Day place xs = Ordered (record { kind = kind.Day; values = column place xs })
index_of kind.Span place xs = Unindexed
index_of kind.Spot place xs = Grid (blocks_at place xs)
index_of kind.Area place xs = Grid (blocks_at place xs)

abbrev pub indexes_from : ℕ → List Named → List Item → List Index
indexes_from place [] xs = []
indexes_from place (p ∷ ps) xs = index_of p.1 place xs ∷ indexes_from (place + 1) ps xs

-- one for each property, in the order of the schema
abbrev pub indexes_of : Collection → List Item → List Index
indexes_of collection xs = indexes_from 0 (schema_of collection) xs

abbrev pub index_at : List Index → ℕ → Index
index_at indexes place = get_or indexes place Unindexed

abbrev pub ordered_in : Index → Option Column
ordered_in Unindexed = None
ordered_in (Ordered o) = Some o
ordered_in (Grid g) = None

abbrev pub grid_in : Index → Option (List (Option Block))
grid_in Unindexed = None
grid_in (Ordered o) = None
grid_in (Grid g) = Some g

-- they are the indexes of these features of the collection
pub record AreIndexesOf (collection : Collection) (xs : List Item) (indexes : Indexes) : Type 0 where
  pub properties : indexes.properties.items ≡ indexes_of collection xs
  pub counted : indexes.count ≡ length xs

-- ---- words of the contracts

-- the positions that were found, if any were
abbrev pub positions_if_any : Option (List ℕ) → List ℕ
positions_if_any None = []
positions_if_any (Some found) = found
