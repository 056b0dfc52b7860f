use Rattle.cad_grid.proofs.SharedLemmas.{shared_is_touched}
use Rattle.cad_grid.proofs.laws.shared_cells_are_touched.Goals as goal

pub returns : goal.returns
returns c = shared_is_touched
