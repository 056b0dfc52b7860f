use Rattle.std.proofs.Common.{◌∙◌}
use Rattle.cad_run.proofs.StepLemmas.{nothing_ahead, nothing_left}
use Rattle.cad_run.proofs.segments_left.SegmentsLeft.next_segment.Goals as goal

pub loop-segment-preserved : goal.loop-segment-preserved
loop-segment-preserved c =
    let s = c.loop-segment.self in
    let was = c.loop-segment.invariant in
    let are = c.in-Some.ensures.cases.0 in
    record {
      apart = (rw are at was.apart).1;
      left = nothing_left s.sought s.after c.in-Some.segment.now s.unopened.now c.in-Some.behind.now are s.opened c.in_default-end_after.ensures ∙ was.left;
      ahead = nothing_ahead s.sought s.after c.in-Some.segment.now s.unopened.now c.in-Some.behind.now are s.opened c.in_default-end_after.ensures ∙ was.ahead;
      opened = was.opened;
    }
