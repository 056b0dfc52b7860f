use Rattle.cad_grid.specs.lemmas.CornerLemmas.{same_block}
use Rattle.cad_grid.proofs.laws.blocks_are_of_corners.Goals as goal

pub returns : goal.returns
returns c = same_block
