-- The positions that are looked at when cells are asked for.
use Rattle.std.specs.Prelude.{ℕ, List, length, map, get_or, filter, Option, None}
use Rattle.std.specs.List.{range_with_len}
use Rattle.cad_feature.specs.Features.{Item}
use Rattle.cad_grid.specs.Blocks.{Block}
use Rattle.cad_grid.specs.Near.{is_candidate, block_at_place}

-- the cells of each feature's property at that place
abbrev pub blocks_at : ℕ → List Item → List (Option Block)
blocks_at place xs = map (block_at_place place) xs

-- the positions, in ascending order
unfoldable pub near_positions : List (Option Block) → Block → List ℕ
near_positions blocks asked = filter (λ p. is_candidate asked (get_or blocks p None)) (range_with_len 0 (length blocks))
