use Rattle.std.proofs.Common.{ℕ, ◌<◌, ◌≤◌, ◌/◌}
use Rattle.cad_grid.specs.Squares.{IsRowFree}
use Rattle.cad_grid.proofs.squares.has_marked_square.Given as goal

abbrev pub invariant-loop-row : goal.invariant-loop-row
invariant-loop-row l = (row : ℕ) → l.cells.low / 8 ≤ row → row < l.row → IsRowFree l.marks row (l.cells.left / 8) (l.cells.right / 8)
