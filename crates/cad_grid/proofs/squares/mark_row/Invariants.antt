use Rattle.std.proofs.Common.{ℕ, ◌<◌, ◌≤◌}
use Rattle.cad_grid.specs.Squares.{place_at}
use Rattle.cad_marks.specs.Marked.{IsMarked}
use Rattle.cad_grid.proofs.squares.mark_row.Given as goal

abbrev pub invariant-loop-column : goal.invariant-loop-column
invariant-loop-column l = record {
  own : (k : ℕ) → IsMarked l.initial.marks k → IsMarked l.marks k;
  more : (column : ℕ) → l.first ≤ column → column < l.column → IsMarked l.marks (place_at l.row column);
}
