use Rattle.std.proofs.Common.{arith}
use Rattle.cad_grid.specs.Entries.{in_row}
use Rattle.cad_grid.proofs.Tallies.{one_counted}
use Rattle.cad_grid.proofs.entering.enter.Goals as goal

pub loop-row-preserved : goal.loop-row-preserved
loop-row-preserved c = λ q v.
    one_counted (in_row q c.args.cells) c.args.position v _ _ _ c.args.cells.low c.loop-row.row (omega arith) (c.in_ok-enter_row.ensures q v) (c.loop-row.invariant q v)
