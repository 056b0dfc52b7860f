use Rattle.std.proofs.Common.{ℕ, ◌<◌, ◌≤◌, ◌/◌}
use Rattle.cad_grid.specs.Squares.{IsRowMarked}
use Rattle.cad_marks.specs.Marked.{IsMarked}
use Rattle.cad_grid.proofs.squares.mark_squares.Given as goal

abbrev pub invariant-loop-row : goal.invariant-loop-row
invariant-loop-row l = record {
  own : (k : ℕ) → IsMarked l.initial.marks k → IsMarked l.marks k;
  more : (row : ℕ) → l.cells.low / 8 ≤ row → row < l.row → IsRowMarked l.marks row (l.cells.left / 8) (l.cells.right / 8);
}
