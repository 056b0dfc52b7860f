use Rattle.std.proofs.Common.{◌≡◌, ◌+◌, ◌≤◌, filter, length, map}
use Rattle.std.specs.Prelude.{option_map}
use Rattle.cad_grid.specs.Counted.{block_at}
use Rattle.cad_grid.specs.Grids.{near_positions}
use Rattle.cad_grid.proofs.Looks.{near_from}
use Rattle.cad_grid.proofs.passing.count_passing.Given as goal

abbrev pub invariant-loop-position : goal.invariant-loop-position
invariant-loop-position g l = record {
  few : l.found ≤ l.position;
  counted : l.found + length (filter (g.T.PositionTest.passes l.test) (near_from l.asked l.cells l.position)) ≡ length (filter (g.T.PositionTest.passes l.test) (near_positions (map (option_map block_at) l.cells) (block_at l.asked)));
}
