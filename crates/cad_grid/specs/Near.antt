-- Which features are looked at when a box is asked for (own profile): those whose bounds touch more than 64 cells, and those whose bounds
-- touch a cell that the box touches.
use Rattle.std.specs.Prelude.{ℕ, Bool, false, ◌||◌, [], ◌∷◌, Option, Some, None}
use Rattle.cad_shape.specs.RegionRings.{region_corners}
use Rattle.cad_feature.specs.Features.{Item, datum_at}
use Rattle.cad_feature.specs.Values.{Datum, null, a_text, a_whole, a_flag, a_day, a_span, a_spot, an_area}
use Rattle.cad_grid.specs.Blocks.{Block, block_around, is_wide, share_a_cell}

-- the cells that the bounds of a shape touch; no shape, none
abbrev pub block_in : Datum → Option Block
block_in null = None
block_in (a_text text) = None
block_in (a_whole n) = None
block_in (a_flag b) = None
block_in (a_day day) = None
block_in (a_span days) = None
block_in (a_spot p) = Some (block_around (p ∷ []))
block_in (an_area region) = Some (block_around (region_corners region))

-- a shape with these cells is looked at when those cells are asked for
abbrev pub is_candidate : Block → Option Block → Bool
is_candidate asked None = false
is_candidate asked (Some own) = is_wide own || share_a_cell own asked

-- the cells of the property at that place
abbrev pub block_at_place : ℕ → Item → Option Block
block_at_place place x = block_in (datum_at x place)

-- the feature is looked at, by its property at that place, when these cells are asked for
abbrev pub is_near : ℕ → Block → Item → Bool
is_near place asked x = is_candidate asked (block_at_place place x)
