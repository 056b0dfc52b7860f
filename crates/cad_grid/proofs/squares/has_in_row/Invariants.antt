use Rattle.std.proofs.Common.{ℕ, ◌<◌, ◌≤◌}
use Rattle.cad_grid.specs.Squares.{place_at}
use Rattle.cad_marks.specs.Marked.{IsMarked}
use Rattle.cad_grid.proofs.squares.has_in_row.Given as goal

abbrev pub invariant-loop-column : goal.invariant-loop-column
invariant-loop-column l = (column : ℕ) → l.first ≤ column → column < l.column → IsMarked l.marks (place_at l.row column) → ⊥
