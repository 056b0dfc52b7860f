-- Of which features an index gives the positions.
use Rattle.std.specs.Prelude.{◌≡◌, ◌↔◌, ℕ, ◌<◌, List, length, filter, get_or, slice_get, IsTrue, Contains, Some}
use Rattle.cad_schema.specs.declared.collection.Collection.{Collection}
use Rattle.cad_feature.specs.Features.{Item, datum_at}
use Rattle.cad_feature.specs.Limits.{Limit}
use Rattle.cad_schema.specs.Attributes.{Named}
use Rattle.cad_schema.specs.Schema.{schema_of}
use Rattle.cad_grid.specs.Blocks.{Block}
use Rattle.cad_grid.specs.Near.{is_near}
use Rattle.cad_grid.specs.Grids.{blocks_at, near_positions}
use Rattle.cad_ordered.specs.Ranged.{column, range_positions}
use Rattle.cad_range.specs.Ranges.{lies_between}
use Rattle.cad_index.specs.Indexed.{index_of, index_at, indexes_of}

-- a position of a list is in a range exactly if the feature at it has a value between the ends
abbrev pub RangesHoldFeatures : Type 0
RangesHoldFeatures = (place : ℕ) (xs : List Item) (low high : Limit) (p : ℕ) (d : Item) → p < length xs
    → Contains (range_positions (column place xs) low high) p ↔ IsTrue (lies_between low high (datum_at (get_or xs p d) place))

abbrev pub RangesCountFeatures : Type 0
RangesCountFeatures = (place : ℕ) (xs : List Item) (low high : Limit)
    → length (range_positions (column place xs) low high) ≡ length (filter (λ x. lies_between low high (datum_at x place)) xs)

abbrev pub GridsHoldFeatures : Type 0
GridsHoldFeatures = (place : ℕ) (xs : List Item) (asked : Block) (p : ℕ) (d : Item) → p < length xs
    → Contains (near_positions (blocks_at place xs) asked) p ↔ IsTrue (is_near place asked (get_or xs p d))

abbrev pub GridsCountFeatures : Type 0
GridsCountFeatures = (place : ℕ) (xs : List Item) (asked : Block)
    → length (near_positions (blocks_at place xs) asked) ≡ length (filter (is_near place asked) xs)

-- the property at a place has the index of its kind, and past the last property there is no index
abbrev pub PropertiesAreIndexed : Type 0
PropertiesAreIndexed = (collection : Collection) (xs : List Item) (place : ℕ) (property : Named) → slice_get (schema_of collection) place ≡ Some property
    → index_at (indexes_of collection xs) place ≡ index_of property.1 place xs
