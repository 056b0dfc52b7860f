use Rattle.std.proofs.Common.{◌≡◌, ◌∙◌, ap, arith, false, refl, sym}
use Rattle.cad_versions.specs.lemmas.ListLemmas.{all_weaker}
use Rattle.cad_extents.specs.Extents.{IsWithin}
use Rattle.cad_index.specs.Layers.{LayerFeatures}
use Rattle.cad_lookup.specs.Ways.{how_many}
use Rattle.cad_layer.specs.lemmas.CountLemmas.{counted_by}
use Rattle.cad_layer.specs.Segments.{SegmentFeatures}
use Rattle.cad_layer.specs.declared.recent.Recent.{Recent}
use Rattle.cad_layer.proofs.CountedLemmas.{merged_count, none_counted}
use Rattle.cad_layer.proofs.segment.Segment.count_meeting.Goals as goal

pub returns-then-not-may_be_met_in : goal.returns-then-not-may_be_met_in
returns-then-not-may_be_met_in g c =
    let passes = g.T.Criterion.passes c.args.criterion.now in
    let features = c.args.self.now.features in
    none_counted passes features (all_weaker (IsWithin c.extents.result.now) (λ x. passes x ≡ false) (c.if-not-may_be_met_in.ensures refl) features c.extents.ensures)

pub overflow_sub-result : goal.overflow_sub-result
overflow_sub-result g c =
    let passes = g.T.Criterion.passes c.args.criterion.now in
    let indexed = c.count_meeting.ensures.passing ∙ ap (λ (m : LayerFeatures). how_many passes m.features) c.shared.ensures in
    let changes = c.count_passing.ensures ∙ sym (counted_by passes _) ∙ ap (how_many passes) c.deref.ensures.value ∙ ap (λ (m : Recent). how_many passes m.changes.items) c.recent_of-recent.ensures in
    let replaced = c.count_passing-2.ensures ∙ sym (counted_by passes _) ∙ ap (how_many passes) c.deref-2.ensures.value ∙ ap (λ (m : Recent). how_many passes m.replaced.items) c.recent_of-recent.ensures in
    omega (arith, indexed, changes, replaced, merged_count c.self.inside.indexed.value.features c.self.inside.recent.value.changes.items c.self.inside.recent.value.replaced.items (c.self.invariant.0.ascending, c.self.invariant.1.ascending) c.self.invariant.2 passes)

pub returns : goal.returns
returns g c =
    let passes = g.T.Criterion.passes c.args.criterion.now in
    let indexed = c.count_meeting.ensures.passing ∙ ap (λ (m : LayerFeatures). how_many passes m.features) c.shared.ensures in
    let changes = c.count_passing.ensures ∙ sym (counted_by passes _) ∙ ap (how_many passes) c.deref.ensures.value ∙ ap (λ (m : Recent). how_many passes m.changes.items) c.recent_of-recent.ensures in
    let replaced = c.count_passing-2.ensures ∙ sym (counted_by passes _) ∙ ap (how_many passes) c.deref-2.ensures.value ∙ ap (λ (m : Recent). how_many passes m.replaced.items) c.recent_of-recent.ensures in
    omega (
      arith,
      indexed,
      changes,
      replaced,
      ap (λ (m : SegmentFeatures). how_many passes m.features) c.self.view_is,
      merged_count c.self.inside.indexed.value.features c.self.inside.recent.value.changes.items c.self.inside.recent.value.replaced.items (c.self.invariant.0.ascending, c.self.invariant.1.ascending) c.self.invariant.2 passes,
    )
