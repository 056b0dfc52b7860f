use Rattle.std.proofs.Common.{sym, ◌∙◌, ◌+◌, arith}
use Rattle.cad_grid.specs.Entries.{entry_at}
use Rattle.cad_grid.proofs.PassingLemmas.{few_kept, count_passing, count_left, count_end}
use Rattle.cad_grid.proofs.Walks.{Passed, first_of, left_over, left_inside, left_last, count_start}
use Rattle.cad_grid.proofs.finding.count_found.Goals as goal
use Rattle.cad_grid.proofs.finding.count_found.Goals.{then-is_first_and_passes, else-is_first_and_passes}

pub loop-at-init : goal.loop-at-init
loop-at-init g c =
    let n = c.first_inside-at.ensures in
    let keeps = g.T.PositionTest.passes c.args.test.now in
    record {
      within = n.within;
      inside = n.inside;
      few = omega (arith, c.count_listed-found.ensures, few_kept keeps c.args.wide.now);
      counted = rw c.count_listed-found.ensures (count_start keeps c.args.asked c.args.cells.now c.args.wide.now c.args.entries.now c.first_inside-at.result (record { after = omega arith; within = n.within; outside = λ k l m. n.passed k m }));
    }

pub loop-at-preserved : goal.loop-at-preserved
loop-at-preserved g c =
    let a = c.args in
    let n = c.next_inside-at.ensures in
    let i = c.loop-at.invariant in
    let h = c.loop-at-test.true in
    let keeps = g.T.PositionTest.passes a.test.now in
    let e = entry_at a.entries.now c.loop-at.at in
    let first = first_of a.asked a.cells.now e in
    let rest = left_over a.asked a.cells.now a.entries.now c.next_inside-at.result in
    let passed : Passed a.asked a.entries.now (c.loop-at.at + 1) c.next_inside-at.result = record { after = n.after; within = n.within; outside = n.passed } in
    let next = left_inside a.asked a.cells.now a.entries.now c.loop-at.at _ h (i.inside h) passed in
    record {
      within = n.within;
      inside = n.inside;
      few = elim c.if-is_first_and_passes.branch [ then-is_first_and_passes w ↦ omega arith | else-is_first_and_passes w ↦ omega arith ];
      counted = elim c.if-is_first_and_passes.branch [
        | then-is_first_and_passes w ↦ rw w.found-is (count_passing keeps c.loop-at.found _ first e.position rest _ next i.counted (sym c.is_first_and_passes.ensures ∙ w.if-is_first_and_passes.true))
        | else-is_first_and_passes w ↦ rw w.found-is (count_left keeps c.loop-at.found _ first e.position rest _ next i.counted (sym c.is_first_and_passes.ensures ∙ w.if-is_first_and_passes.false))
      ];
    }

pub returns : goal.returns
returns g c =
    count_end (g.T.PositionTest.passes c.args.test.now) c.loop-at.found _ _ (left_last c.args.asked c.args.cells.now c.args.entries.now c.loop-at.at (omega arith)) c.loop-at.invariant.counted
