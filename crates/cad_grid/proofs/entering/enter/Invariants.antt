use Rattle.std.proofs.Common.{◌≡◌, ℕ, ◌+◌, ◌-◌, Bool}
use Rattle.cad_grid.specs.Entries.{entered, for_position, in_row, tally}
use Rattle.cad_grid.proofs.entering.enter.Given as goal

abbrev pub invariant-loop-row : goal.invariant-loop-row
invariant-loop-row l = (q : ℕ → ℕ → Bool) (v : ℕ) → entered q v l.entries.items ≡ entered q v l.fn.entries.items + for_position l.position v (tally (in_row q l.cells) l.cells.low (l.row - l.cells.low))
