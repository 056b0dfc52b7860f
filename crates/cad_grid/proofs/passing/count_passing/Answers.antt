use Rattle.std.proofs.Common.{◌≡◌, ◌∙◌, ◌+◌, ap, arith, refl, sym}
use Rattle.std.specs.Prelude.{◌&&◌}
use Rattle.cad_grid.proofs.PassingLemmas.{count_passing, count_left, count_end}
use Rattle.cad_grid.proofs.Looks.{is_near_at, near_from, none_left, one_left, said_at, count_start}
use Rattle.cad_grid.proofs.passing.count_passing.Goals as goal
use Rattle.cad_grid.proofs.passing.count_passing.Goals.{then-is_near_and_passes, else-is_near_and_passes}

pub loop-position-init : goal.loop-position-init
loop-position-init g c = record { few = omega arith; counted = count_start (g.T.PositionTest.passes c.args.test.now) c.args.asked c.args.cells.now }

pub loop-position-preserved : goal.loop-position-preserved
loop-position-preserved g c =
    let a = c.args in
    let keeps = g.T.PositionTest.passes a.test.now in
    let i = c.loop-position.invariant in
    let p = c.loop-position.position in
    let near = is_near_at a.asked a.cells.now p in
    let next = one_left a.asked a.cells.now p (omega arith) in
    let same : (near && keeps p) ≡ c.is_near_and_passes.result = ap (λ b. b && keeps p) (said_at a.asked a.cells.now p c.index-cells-position.result _ (omega arith) c.index-cells-position.is refl) ∙ sym c.is_near_and_passes.ensures in
    record {
      few = elim c.if-is_near_and_passes.branch [ then-is_near_and_passes w ↦ omega arith | else-is_near_and_passes w ↦ omega arith ];
      counted = elim c.if-is_near_and_passes.branch [
        | then-is_near_and_passes w ↦ rw w.found-is (count_passing keeps c.loop-position.found _ near p (near_from a.asked a.cells.now (p + 1)) _ next i.counted (same ∙ w.if-is_near_and_passes.true))
        | else-is_near_and_passes w ↦ rw w.found-is (count_left keeps c.loop-position.found _ near p (near_from a.asked a.cells.now (p + 1)) _ next i.counted (same ∙ w.if-is_near_and_passes.false))
      ];
    }

pub returns : goal.returns
returns g c =
    count_end (g.T.PositionTest.passes c.args.test.now) c.loop-position.found _ _ (none_left c.args.asked c.args.cells.now c.loop-position.position (omega arith)) c.loop-position.invariant.counted
