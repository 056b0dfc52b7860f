use Rattle.cad_grid.proofs.CellLemmas.{in_its_cell, one_cell}
use Rattle.cad_grid.proofs.laws.cells_are_squares.Goals as goal

pub returns : goal.returns
returns c = λ x n. (
  λ e. let i = rw e at (in_its_cell x) in (i.from, i.under),
  λ h. one_cell x n (record { from = h.0; under = h.1 }),
)
