use Rattle.std.proofs.Common.{refl}
use Rattle.cad_grid.specs.Counted.{block_at}
use Rattle.cad_extents.proofs.BlockLemmas.{small_in, small_of_all}
use Rattle.cad_grid.specs.Squares.{place_at}
use Rattle.cad_extents.proofs.covered.Covered.widen.Goals as goal

pub returns-clause-own : goal.returns-clause-own
returns-clause-own c = λ b held. (
  small_of_all b (block_at c.args.self.now.block) (block_at c.around-self.result) held.0 c.around-self.ensures.one,
  (held.1.0, held.1.1, λ row low high column left right. c.mark_squares.ensures.own (place_at row column) (held.1.2 row low high column left right)),
)

pub returns-clause-more : goal.returns-clause-more
returns-clause-more c = (small_in (block_at c.args.cells) (block_at c.around-self.result) c.requires c.around-self.ensures.other, (c.args.cells, refl, c.mark_squares.ensures.more))
