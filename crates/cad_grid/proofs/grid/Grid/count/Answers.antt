use Rattle.std.proofs.Common.{◌∙◌}
use Rattle.cad_grid.proofs.PassingLemmas.{each_kept}
use Rattle.cad_grid.proofs.grid.Grid.count.Goals as goal

pub returns : goal.returns
returns c = c.count_passing.ensures ∙ each_kept _
