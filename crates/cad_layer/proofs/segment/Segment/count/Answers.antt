use Rattle.std.proofs.Common.{ap, arith, length, ◌∙◌}
use Rattle.cad_index.specs.Layers.{LayerFeatures}
use Rattle.cad_layer.specs.Segments.{SegmentFeatures}
use Rattle.cad_layer.specs.declared.recent.Recent.{Recent}
use Rattle.cad_layer.proofs.CountedLemmas.{merged_length}
use Rattle.cad_layer.proofs.segment.Segment.count.Goals as goal

pub overflow_sub-result : goal.overflow_sub-result
overflow_sub-result c =
    let indexed = c.count.ensures.count ∙ ap (λ (m : LayerFeatures). length m.features) c.shared.ensures in
    let changes = ap length c.deref-changes.ensures.value ∙ ap (λ (m : Recent). length m.changes.items) c.recent_of-recent.ensures in
    let replaced = ap length c.deref-replaced.ensures.value ∙ ap (λ (m : Recent). length m.replaced.items) c.recent_of-recent.ensures in
    omega (arith, indexed, changes, replaced, merged_length c.self.inside.indexed.value.features c.self.inside.recent.value.changes.items c.self.inside.recent.value.replaced.items (c.self.invariant.0.ascending, c.self.invariant.1.ascending) c.self.invariant.2)

pub returns : goal.returns
returns c =
    let indexed = c.count.ensures.count ∙ ap (λ (m : LayerFeatures). length m.features) c.shared.ensures in
    let changes = ap length c.deref-changes.ensures.value ∙ ap (λ (m : Recent). length m.changes.items) c.recent_of-recent.ensures in
    let replaced = ap length c.deref-replaced.ensures.value ∙ ap (λ (m : Recent). length m.replaced.items) c.recent_of-recent.ensures in
    omega (
      arith,
      indexed,
      changes,
      replaced,
      ap (λ (m : SegmentFeatures). length m.features) c.self.view_is,
      merged_length c.self.inside.indexed.value.features c.self.inside.recent.value.changes.items c.self.inside.recent.value.replaced.items (c.self.invariant.0.ascending, c.self.invariant.1.ascending) c.self.invariant.2,
    )
