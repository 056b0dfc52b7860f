use Rattle.std.proofs.Common.{arith}
use Rattle.cad_layer.specs.Segments.{joined}
use Rattle.cad_layer.proofs.CountedLemmas.{no_more}
use Rattle.cad_layer.proofs.SummingLemmas.{sum_more}
use Rattle.cad_layer.proofs.summing.count_all.Goals as goal

pub overflow_add-count : goal.overflow_add-count
overflow_add-count g c =
    let p = g.T.Criterion.passes c.args.criterion.now in
    omega (arith, c.requires, no_more p (joined c.args.segments.now), sum_more p _ _ _ _ _ _ c.in-Some.ensures.cases.0 c.count_meeting-count.ensures c.loop-segment.invariant.so_far)

pub loop-segment-preserved : goal.loop-segment-preserved
loop-segment-preserved g c = record {
  so_far = sum_more (g.T.Criterion.passes c.args.criterion.now) _ _ _ _ _ _ c.in-Some.ensures.cases.0 c.count_meeting-count.ensures c.loop-segment.invariant.so_far;
}
