use Rattle.std.proofs.Common.{◌≡◌, length}
use Rattle.cad_layer.specs.Segments.{AreSegments}
use Rattle.cad_run.specs.SegmentLeft.{segments_ahead, segments_left}
use Rattle.cad_run.proofs.segments_left.SegmentsLeft.next_segment.Given as goal

abbrev pub invariant-loop-segment : goal.invariant-loop-segment
invariant-loop-segment l = record {
  apart : AreSegments l.self.unopened.now;
  left : segments_left l.self ≡ segments_left l.initial.self;
  ahead : segments_ahead l.self ≡ segments_ahead l.initial.self;
  opened : l.self.opened ≡ l.initial.self.opened;
}

abbrev pub decreases-loop-segment : goal.decreases-loop-segment
decreases-loop-segment l = length l.self.unopened.now
