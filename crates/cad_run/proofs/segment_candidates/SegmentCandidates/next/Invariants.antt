use Rattle.std.proofs.Common.{◌≡◌, length}
use Rattle.cad_run.specs.SegmentLeft.{segment_left}
use Rattle.cad_run.proofs.segment_candidates.SegmentCandidates.next.Given as goal

abbrev pub invariant-loop-change : goal.invariant-loop-change
invariant-loop-change l = segment_left l.self ≡ segment_left l.initial.self

abbrev pub decreases-loop-change : goal.decreases-loop-change
decreases-loop-change l = length l.self.changes.now
