use Rattle.std.proofs.Common.{refl}
use Rattle.cad_grid.specs.Counted.{block_at}
use Rattle.cad_extents.proofs.BlockLemmas.{small_in_own}
use Rattle.cad_extents.proofs.covered.Covered.of.Goals as goal

pub returns : goal.returns
returns c = (small_in_own (block_at c.args.cells) c.requires, (c.args.cells, refl, c.mark_squares.ensures.more))
