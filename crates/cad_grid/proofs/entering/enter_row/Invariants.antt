use Rattle.std.proofs.Common.{◌≡◌, ℕ, ◌+◌, ◌-◌, Bool}
use Rattle.cad_positions.specs.Hits.{once}
use Rattle.cad_grid.specs.Entries.{entered, for_position, tally}
use Rattle.cad_grid.proofs.entering.enter_row.Given as goal

abbrev pub invariant-loop-column : goal.invariant-loop-column
invariant-loop-column l = (q : ℕ → ℕ → Bool) (v : ℕ) → entered q v l.entries.items ≡ entered q v l.fn.entries.items + for_position l.position v (tally (λ column. once (q l.row column)) l.fn.cells.left (l.column - l.fn.cells.left))
