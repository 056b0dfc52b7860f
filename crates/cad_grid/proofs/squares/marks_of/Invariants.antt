use Rattle.std.proofs.Common.{ℕ, ◌<◌}
use Rattle.cad_grid.specs.Entries.{entry_at}
use Rattle.cad_grid.proofs.SquareLemmas.{IsEntryMarked}
use Rattle.cad_grid.proofs.squares.marks_of.Given as goal

abbrev pub invariant-loop-entry : goal.invariant-loop-entry
invariant-loop-entry l = (k : ℕ) → k < l.entry-index → IsEntryMarked l.marks (entry_at l.entries k)
