-- The positions that an index gives.
use Rattle.std.proofs.Common.{◌≡◌, ℕ, List, length, get_or, None}
use Rattle.std.specs.List.Sorted.{IsStrictlyIncreasing}
use Rattle.cad_grid.specs.Blocks.{Block}
use Rattle.cad_grid.specs.Near.{block_at_place, is_candidate, is_near}
use Rattle.cad_feature.specs.Features.{Item}
use Rattle.cad_feature.specs.Limits.{limit_of}
use Rattle.cad_feature.specs.Values.{null}
use Rattle.cad_feature.specs.declared.range.Range.{Range}
use Rattle.cad_grid.specs.Grids.{blocks_at, near_positions}
use Rattle.cad_ordered.specs.Ranged.{column, range_positions, value_at}
use Rattle.cad_range.specs.Ranges.{lies_between, lies_in}
use Rattle.cad_positions.specs.Held.{is_among}
use Rattle.cad_run.specs.Positions.{holds_at}
use Rattle.cad_run.proofs.PositionLemmas.{among_features, below_rises}

pub range_has : (r : Range) (xs : List Item) (k : ℕ) → is_among (range_positions (column r.property xs) (limit_of r.low) (limit_of r.high)) k ≡ holds_at (λ x. lies_in x r) xs k
unfolding range_positions
range_has r xs k = among_features (value_at r.property) null (lies_between (limit_of r.low) (limit_of r.high)) xs k

pub range_rises : (r : Range) (xs : List Item) → IsStrictlyIncreasing (range_positions (column r.property xs) (limit_of r.low) (limit_of r.high))
unfolding range_positions
range_rises r xs = below_rises (λ p. lies_between (limit_of r.low) (limit_of r.high) (get_or (column r.property xs) p null)) (length (column r.property xs))

pub near_has : (property : ℕ) (asked : Block) (xs : List Item) (k : ℕ) → is_among (near_positions (blocks_at property xs) asked) k ≡ holds_at (is_near property asked) xs k
unfolding near_positions
near_has property asked xs k = among_features (block_at_place property) None (is_candidate asked) xs k

pub near_rises : (property : ℕ) (asked : Block) (xs : List Item) → IsStrictlyIncreasing (near_positions (blocks_at property xs) asked)
unfolding near_positions
near_rises property asked xs = below_rises (λ p. is_candidate asked (get_or (blocks_at property xs) p None)) (length (blocks_at property xs))
