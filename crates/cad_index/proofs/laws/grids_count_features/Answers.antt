use Rattle.std.specs.Prelude.{None}
use Rattle.cad_grid.specs.Near.{is_candidate, block_at_place}
use Rattle.cad_grid.specs.Grids.{near_positions}
use Rattle.cad_index.proofs.Counted.{counted_by}
use Rattle.cad_index.proofs.laws.grids_count_features.Goals as goal

pub returns : goal.returns
unfolding near_positions
returns c = λ place xs asked. counted_by (is_candidate asked) (block_at_place place) None xs
