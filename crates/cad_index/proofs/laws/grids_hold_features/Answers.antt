use Rattle.std.specs.Prelude.{None}
use Rattle.cad_grid.specs.Near.{is_candidate, block_at_place}
use Rattle.cad_grid.specs.Grids.{near_positions}
use Rattle.cad_index.proofs.Counted.{holds_at}
use Rattle.cad_index.proofs.laws.grids_hold_features.Goals as goal

pub returns : goal.returns
unfolding near_positions
returns c = λ place xs asked p d h. holds_at (is_candidate asked) (block_at_place place) None xs p d h
