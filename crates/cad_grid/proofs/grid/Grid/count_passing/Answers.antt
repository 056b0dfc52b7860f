use Rattle.cad_grid.specs.Blocks.{block_of}
use Rattle.cad_grid.proofs.Near.{found_kept}
use Rattle.cad_grid.proofs.grid.Grid.count_passing.Goals as goal

pub returns-else-are_many : goal.returns-else-are_many
returns-else-are_many g c =
    rw (c.count_found.ensures, c.deref-else-are_many.ensures.value, c.deref-else-are_many-2.ensures.value, c.deref-else-are_many-3.ensures.value, ← c.self.view_is)
    (found_kept (g.T.PositionTest.passes c.args.test.now) c.of-asked.result (block_of c.args.bounds) _ _ _ c.self.invariant.0 c.of-asked.ensures)
