use Rattle.std.proofs.Common.{◌≡◌, ◌++◌, map}
use Rattle.std.specs.Prelude.{option_map}
use Rattle.cad_grid.specs.Counted.{block_at}
use Rattle.cad_grid.specs.Grids.{near_positions}
use Rattle.cad_grid.proofs.Looks.{near_from}
use Rattle.cad_grid.proofs.passing.list_passing.Given as goal

abbrev pub invariant-loop-position : goal.invariant-loop-position
invariant-loop-position l = l.found.items ++ near_from l.asked l.cells l.position ≡ near_positions (map (option_map block_at) l.cells) (block_at l.asked)
