use Rattle.std.proofs.Common.{IfOk, ap, subst, ◌≡◌}
use Rattle.cad_layer.specs.Segments.{SegmentFeatures}
use Rattle.cad_layer.specs.declared.recent.Recent.{Recent}
use Rattle.cad_layer.proofs.MergedLemmas.{more_seen_from}
use Rattle.cad_layer.proofs.segment.Segment.with.Goals as goal

pub returns-then-len-most_recent : goal.returns-then-len-most_recent
returns-then-len-most_recent c =
    let same = ap (λ (m : Recent). m.changes.items) c.recent_of.ensures in
    let more = more_seen_from c.self.inside.indexed.value c.shared-indexed.result.now c.shared-indexed.ensures c.self.inside.recent.value.changes.items c.recent_of.result.now.changes.items c.args.touched.items c.in_ok-recent.recent.changes.items same c.in_ok-recent.ensures.changes c.self.inside.start c.args.self.now c.self.view_is in
    subst (λ (m : SegmentFeatures). IfOk c.indexed_with.result (λ segment. segment ≡ m)) more c.indexed_with.ensures

pub returns : goal.returns
returns c =
    let same = ap (λ (m : Recent). m.changes.items) c.recent_of.ensures in
    let more = more_seen_from c.self.inside.indexed.value c.in_ok-indexed.indexed.value c.in_ok-indexed.ensures.cases c.self.inside.recent.value.changes.items c.recent_of.result.now.changes.items c.args.touched.items c.in_ok-recent.recent.changes.items same c.in_ok-recent.ensures.changes c.self.inside.start c.args.self.now c.self.view_is in
    subst (λ (m : SegmentFeatures). IfOk c.of.result (λ segment. segment ≡ m)) more c.of.ensures
