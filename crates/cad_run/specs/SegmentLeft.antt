-- The remaining candidates of segments.
use Rattle.std.specs.Prelude.{ℕ, List, [], ◌++◌, filter, Option, Some, None, option_map}
use Rattle.cad_versions.specs.declared.object_id.ObjectId.{ObjectId}
use Rattle.cad_feature.specs.Features.{Item}
use Rattle.cad_layer.specs.Segments.{SegmentFeatures, joined}
use Rattle.cad_layer.specs.Walks.{all_in}
use Rattle.cad_run.specs.declared.segment_candidates.SegmentCandidates.{SegmentCandidates}
use Rattle.cad_run.specs.declared.segments_left.SegmentsLeft.{SegmentsLeft}
use Rattle.cad_run.specs.declared.sought.Sought.{Sought}
use Rattle.cad_run.specs.IndexedLeft.{indexed_left}
use Rattle.cad_run.specs.Peeked.{peeked_left}
use Rattle.cad_run.specs.Slices.{identifier, later}
use Rattle.cad_run.specs.Sought.{is_sought}

-- of a segment: of indexed features and of the recent changes
abbrev pub segment_left : SegmentCandidates → List Item
segment_left s = filter (is_sought s.sought) (all_in (peeked_left indexed_left s.bases) s.changes.now)

-- of the segment whose indexes were asked, if there is one
abbrev pub opened_left : Option SegmentCandidates → List Item
opened_left None = []
opened_left (Some s) = segment_left s

-- of those whose indexes were not asked: what comes after a feature that was named
abbrev pub unopened_left : Sought → Option (ObjectId × ℕ) → List SegmentFeatures → List Item
unopened_left sought after segments = later (option_map identifier after) (filter (is_sought sought) (joined segments))

-- of both
abbrev pub segments_left : SegmentsLeft → List Item
segments_left s = opened_left s.opened ++ unopened_left s.sought s.after s.unopened.now

-- ---- what is ahead

-- the features of the segments whose indexes were not asked, after the one that was named
abbrev pub unopened_ahead : Option (ObjectId × ℕ) → List SegmentFeatures → List Item
unopened_ahead after segments = later (option_map identifier after) (joined segments)

-- and before them the candidates that are left of the segment whose indexes were asked
abbrev pub segments_ahead : SegmentsLeft → List Item
segments_ahead s = opened_left s.opened ++ unopened_ahead s.after s.unopened.now
