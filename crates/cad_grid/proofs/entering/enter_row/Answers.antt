use Rattle.std.proofs.Common.{◌≡◌, ◌+◌, refl, arith}
use Rattle.cad_positions.specs.Hits.{once}
use Rattle.cad_grid.proofs.Tallies.{none_counted, one_counted, one_entered}
use Rattle.cad_grid.proofs.entering.enter_row.Goals as goal

pub loop-column-init : goal.loop-column-init
loop-column-init c = λ q v. none_counted (λ column. once (q c.args.row column)) c.args.position v _ _ c.args.cells.left c.args.cells.left refl (omega arith)

pub loop-column-preserved : goal.loop-column-preserved
loop-column-preserved c = λ q v.
    one_counted (λ column. once (q c.args.row column)) c.args.position v _ _ _ c.args.cells.left c.loop-column.column (omega arith)
    (rw c.in_ok-push.ensures.items (one_entered q v c.loop-column.entries.items _)) (c.loop-column.invariant q v)

pub returns : goal.returns
returns c = λ q v. let e : c.loop-column.column ≡ c.args.cells.right + 1 = omega arith in rw e at (c.loop-column.invariant q v)
