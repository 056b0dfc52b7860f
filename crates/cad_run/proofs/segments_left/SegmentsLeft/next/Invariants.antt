use Rattle.std.proofs.Common.{◌≡◌, length}
use Rattle.std.specs.List.Sorted.{IsStrictlySortedBy}
use Rattle.cad_feature.specs.Features.{by_identifier}
use Rattle.cad_layer.specs.Segments.{AreSegments}
use Rattle.cad_run.specs.SegmentLeft.{segments_ahead, segments_left}
use Rattle.cad_run.proofs.segments_left.SegmentsLeft.next.Given as goal

abbrev pub invariant-loop-feature : goal.invariant-loop-feature
invariant-loop-feature l = record {
  apart : AreSegments l.self.unopened.now;
  ascending : IsStrictlySortedBy by_identifier (segments_ahead l.self);
  left : segments_left l.self ≡ segments_left l.initial.self;
}

abbrev pub decreases-loop-feature : goal.decreases-loop-feature
decreases-loop-feature l = length l.self.unopened.now
