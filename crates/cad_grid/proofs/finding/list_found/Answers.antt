use Rattle.std.proofs.Common.{sym, ◌∙◌, ◌++◌, ◌+◌, ap, arith}
use Rattle.cad_grid.proofs.Walks.{Passed, list_start, list_taken, list_end, taken_next, alone_next}
use Rattle.cad_grid.proofs.finding.list_found.Goals as goal
use Rattle.cad_grid.proofs.finding.list_found.Goals.{then-is_first+in_ok-push, else-is_first}

pub loop-at-init : goal.loop-at-init
loop-at-init c =
    let n = c.first_inside-at.ensures in
    record {
      within = n.within;
      inside = n.inside;
      listed = rw c.in_ok-found.ensures.items (list_start c.args.asked c.args.cells.now c.args.wide.now c.args.entries.now c.first_inside-at.result (record { after = omega arith; within = n.within; outside = λ k l m. n.passed k m }));
    }

pub loop-at-preserved : goal.loop-at-preserved
loop-at-preserved c =
    let a = c.args in
    let n = c.next_inside-at.ensures in
    let i = c.loop-at.invariant in
    let h = c.loop-at-test.true in
    let passed : Passed a.asked a.entries.now (c.loop-at.at + 1) c.next_inside-at.result = record { after = n.after; within = n.within; outside = n.passed } in
    record {
      within = n.within;
      inside = n.inside;
      listed = elim c.if-is_first.branch [
        | then-is_first+in_ok-push w ↦ rw (w.found-is, w.in_ok-push.ensures.items) (list_taken c.loop-at.found.items _ _ _ _ (taken_next a.asked a.cells.now a.entries.now c.loop-at.at _ h (i.inside h) passed (sym c.is_first.ensures ∙ w.if-is_first.true)) i.listed)
        | else-is_first w ↦ rw w.found-is (ap (λ xs. c.loop-at.found.items ++ xs) (sym (alone_next a.asked a.cells.now a.entries.now c.loop-at.at _ h (i.inside h) passed (sym c.is_first.ensures ∙ w.if-is_first.false))) ∙ i.listed)
      ];
    }

pub returns : goal.returns
returns c = list_end c.args.asked c.args.cells.now c.args.entries.now c.loop-at.at c.loop-at.found.items _ (omega arith) c.loop-at.invariant.listed
