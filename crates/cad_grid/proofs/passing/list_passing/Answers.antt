use Rattle.std.proofs.Common.{sym, ◌∙◌, arith}
use Rattle.cad_grid.proofs.Looks.{said_at, list_start, list_taken, list_passed, list_end}
use Rattle.cad_grid.proofs.passing.list_passing.Goals as goal
use Rattle.cad_grid.proofs.passing.list_passing.Goals.{then-is_near+in_ok-push, else-is_near}

pub loop-position-init : goal.loop-position-init
loop-position-init c = rw c.new-found.ensures.items (list_start c.args.asked c.args.cells.now)

pub loop-position-preserved : goal.loop-position-preserved
loop-position-preserved c =
    let a = c.args in
    let p = c.loop-position.position in
    elim c.if-is_near.branch [
      | then-is_near+in_ok-push w ↦ rw (w.found-is, w.in_ok-push.ensures.items) (list_taken a.asked a.cells.now p c.loop-position.found.items _ (omega arith) (said_at a.asked a.cells.now p c.index-cells-position.result _ (omega arith) c.index-cells-position.is (sym c.is_near.ensures ∙ w.if-is_near.true)) c.loop-position.invariant)
      | else-is_near w ↦ rw w.found-is (list_passed a.asked a.cells.now p c.loop-position.found.items _ (omega arith) (said_at a.asked a.cells.now p c.index-cells-position.result _ (omega arith) c.index-cells-position.is (sym c.is_near.ensures ∙ w.if-is_near.false)) c.loop-position.invariant)
    ]

pub returns : goal.returns
returns c = list_end c.args.asked c.args.cells.now c.loop-position.position c.loop-position.found.items _ (omega arith) c.loop-position.invariant
