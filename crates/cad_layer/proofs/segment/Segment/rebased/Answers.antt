use Rattle.std.proofs.Common.{◌++◌, ◌∙◌, ap, subst, sym}
use Rattle.cad_feature.specs.Features.{AreFeaturesOf}
use Rattle.cad_index.specs.Layers.{LayerFeatures}
use Rattle.cad_layer.specs.lemmas.ListedLemmas.{listed_is}
use Rattle.cad_layer.specs.Segments.{SegmentFeatures}
use Rattle.cad_layer.proofs.segment.Segment.rebased.Goals as goal

pub build-requires-clause-listed : goal.build-requires-clause-listed
build-requires-clause-listed c =
    let same = c.collection-collection.ensures.collection ∙ ap (λ (m : LayerFeatures). m.collection) c.shared.ensures in
    let all = c.in_ok-push_all.ensures ∙ ap (λ xs. xs ++ c.walk.result) c.in_ok-features.ensures.items ∙ c.walk.ensures ∙ sym (ap (λ (s : SegmentFeatures). s.features) c.self.view_is) in
    subst (λ k. AreFeaturesOf k c.push_all.new.all.items) (sym same) (listed_is c.self.inside.indexed.value.collection c.self.inside.indexed.value.features c.self.inside.recent.value.changes.items c.push_all.new.all.items all c.self.invariant.0 c.self.invariant.1)
