-- Between which values those of some features lie, property by property (own profile).
use Rattle.std.specs.Prelude.{◌≡◌, ℕ, ℤ, Bool, true, not, ◌&&◌, int_le, List, Option, Some, None, get_or}
use Rattle.cad_grid.specs.Blocks.{Block, is_wide}
use Rattle.cad_grid.specs.Counted.{block_at}
use Rattle.cad_grid.specs.Near.{block_in}
use Rattle.cad_grid.specs.declared.cells.Cells.{Cells}
use Rattle.cad_feature.specs.Features.{Item, datum_at}
use Rattle.cad_feature.specs.Values.{Datum, a_whole}
use Rattle.cad_range.specs.Ranges.{has_order}
use Rattle.cad_extents.specs.Places.{IsNoted}
use Rattle.cad_grid.specs.Squares.{AreMarked}
use Rattle.cad_extents.specs.declared.covered.Covered.{Covered}
use Rattle.cad_extents.specs.declared.values.ValueExtent.{ValueExtent}
use Rattle.cad_extents.specs.declared.values.ValueExtent.TheVariants as values
use Rattle.cad_extents.specs.declared.noted.NotedValues.TheVariants as noted
use Rattle.cad_extents.specs.declared.cells.CellExtent.{CellExtent}
use Rattle.cad_extents.specs.declared.cells.CellExtent.TheVariants as cells
use Rattle.cad_extents.specs.declared.extent.Extent.{Extent}
use Rattle.cad_extents.specs.declared.extents.Extents.{Extents}

-- a whole number from one to another, or a value that has no order
abbrev pub is_whole_in : ℤ → ℤ → Datum → Bool
is_whole_in low high (a_whole n) = int_le low n && int_le n high
is_whole_in low high d = not (has_order d)

-- the value is one of those, or has no order
abbrev pub holds_value : ValueExtent → Datum → Bool
holds_value values.Empty d = not (has_order d)
holds_value (values.Wholes low high) d = is_whole_in low high d
holds_value values.Any d = true

-- the numbers from first to last are all from `from` to `to`
abbrev pub is_part : ℤ → ℤ → ℤ → ℤ → Bool
is_part first last from to = int_le from first && int_le last to

-- each cell of the one is one of the other
abbrev pub is_inside : Block → Block → Bool
is_inside a b = is_part a.left a.right b.left b.right && is_part a.low a.high b.low b.high

-- at most 64 cells, all of this block
abbrev pub is_small_in : Block → Block → Bool
is_small_in all own = not (is_wide own) && is_inside own all

-- at most 64 cells, all of the block, and each square that has some of them is marked
abbrev pub IsCovered : Covered → Block → Type 0
IsCovered covered own = (is_small_in (block_at covered.block) own ≡ true) × ((cells : Cells) × (block_at cells ≡ own) × AreMarked covered.marks cells)

-- a shape with these cells is one of those; or there is no shape
abbrev pub HoldsCells : CellExtent → Option Block → Type 0
HoldsCells e None = Unit {0}
HoldsCells cells.Empty (Some own) = ⊥
HoldsCells (cells.Within covered) (Some own) = IsCovered covered own
HoldsCells cells.Any (Some own) = Unit {0}

-- the value is one of those, its place is marked, and the shape that it may be is one of those
abbrev pub Holds : Extent → Datum → Type 0
Holds e d = (holds_value e.values d ≡ true) × IsNoted e.noted d × HoldsCells e.cells (block_in d)

-- ---- of all properties

abbrev pub any : Extent
any = record { values = values.Any; noted = noted.Any; cells = cells.Any }

-- the extent of the property at a place; past the last property any value is allowed
abbrev pub extent_at : List Extent → ℕ → Extent
extent_at es place = get_or es place any

-- each value of the feature is one of those of its property
abbrev pub AreHeld : List Extent → Item → Type 0
AreHeld es x = (place : ℕ) → Holds (extent_at es place) (datum_at x place)

abbrev pub IsWithin : Extents → Item → Type 0
IsWithin extents x = AreHeld extents.all.items x
