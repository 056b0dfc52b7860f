use Rattle.std.proofs.Common.{ap, ap₂, subst, sym, ◌∙◌}
use Rattle.std.specs.List.Sorted.{IsStrictlySortedBy}
use Rattle.cad_feature.specs.Features.{AreFeaturesOf, by_identifier}
use Rattle.cad_index.specs.Layers.{LayerFeatures}
use Rattle.cad_layer.specs.inner.Replaced.{replaced_in}
use Rattle.cad_layer.specs.Walks.{all_in}
use Rattle.cad_layer.proofs.IndexedLemmas.{replaced_with_listed, rises, with_listed, with_replaced}
use Rattle.cad_layer.proofs.MergedLemmas.{more_seen}
use Rattle.cad_layer.proofs.indexed.Indexed.with.Goals as goal

pub small_base-requires : goal.small_base-requires
small_base-requires c =
    let inside = c.self.inside in
    let base = inside.base.value in
    let new = subst (λ (m : LayerFeatures). AreFeaturesOf m.collection c.args.changes.now) (sym c.self.view_is) c.requires in
    let same = c.collection-collection.ensures.collection ∙ ap (λ (m : LayerFeatures). m.collection) c.shared-base.ensures in
    let older = c.in_ok-older.ensures ∙ ap (λ xs. all_in xs c.args.changes.now) c.features.ensures.features in
    subst (λ k. AreFeaturesOf k c.in_ok-older.older.items) (sym same)
    (subst (AreFeaturesOf base.collection) (sym older) (with_listed base.collection base.features inside.older.features inside.replaced.features c.self.invariant.3 c.self.invariant.0 c.self.invariant.1 c.args.changes.now new))

pub merge-requires-2 : goal.merge-requires-2
merge-requires-2 c =
    let inside = c.self.inside in
    let base = inside.base.value in
    let new = subst (λ (m : LayerFeatures). AreFeaturesOf m.collection c.args.changes.now) (sym c.self.view_is) c.requires in
    let more = c.deref.ensures.value ∙ c.in_ok-more.ensures ∙ ap (λ (m : LayerFeatures). replaced_in by_identifier m.features c.args.changes.now) c.shared-base.ensures in
    let up = rises base.collection base.features inside.older.features inside.replaced.features c.self.invariant.3 c.self.invariant.0 c.self.invariant.1 c.args.changes.now new in
    (subst (IsStrictlySortedBy by_identifier) (sym c.features-2.ensures.features) up.0, subst (IsStrictlySortedBy by_identifier) (sym more) up.1)

pub small_base-requires-2 : goal.small_base-requires-2
small_base-requires-2 c =
    let inside = c.self.inside in
    let base = inside.base.value in
    let new = subst (λ (m : LayerFeatures). AreFeaturesOf m.collection c.args.changes.now) (sym c.self.view_is) c.requires in
    let same = c.collection-collection.ensures.collection ∙ ap (λ (m : LayerFeatures). m.collection) c.shared-base.ensures in
    let more = c.deref.ensures.value ∙ c.in_ok-more.ensures ∙ ap (λ (m : LayerFeatures). replaced_in by_identifier m.features c.args.changes.now) c.shared-base.ensures in
    let replaced = c.in_ok-replaced.ensures ∙ ap₂ all_in c.features-2.ensures.features more in
    subst (λ k. AreFeaturesOf k c.in_ok-replaced.replaced.items) (sym same)
    (subst (AreFeaturesOf base.collection) (sym replaced) (replaced_with_listed base.collection base.features inside.older.features inside.replaced.features c.self.invariant.3 c.self.invariant.0 c.self.invariant.1 c.args.changes.now new))

pub invariant_of-result : goal.invariant_of-result
invariant_of-result c =
    let inside = c.self.inside in
    let base = inside.base.value in
    let new = subst (λ (m : LayerFeatures). AreFeaturesOf m.collection c.args.changes.now) (sym c.self.view_is) c.requires in
    let older = ap (λ (m : LayerFeatures). m.features) c.in_ok-older-2.ensures ∙ c.in_ok-older.ensures ∙ ap (λ xs. all_in xs c.args.changes.now) c.features.ensures.features in
    let more = c.deref.ensures.value ∙ c.in_ok-more.ensures ∙ ap (λ (m : LayerFeatures). replaced_in by_identifier m.features c.args.changes.now) c.shared-base.ensures in
    let replaced = ap (λ (m : LayerFeatures). m.features) c.in_ok-replaced-2.ensures ∙ c.in_ok-replaced.ensures ∙ ap₂ all_in c.features-2.ensures.features more in
    rw c.in_ok-base.ensures.cases (
      c.self.invariant.0,
      subst (AreFeaturesOf base.collection) (sym older) (with_listed base.collection base.features inside.older.features inside.replaced.features c.self.invariant.3 c.self.invariant.0 c.self.invariant.1 c.args.changes.now new),
      subst (AreFeaturesOf base.collection) (sym replaced) (replaced_with_listed base.collection base.features inside.older.features inside.replaced.features c.self.invariant.3 c.self.invariant.0 c.self.invariant.1 c.args.changes.now new),
      replaced ∙ with_replaced base.collection base.features inside.older.features inside.replaced.features c.self.invariant.3 c.self.invariant.0 c.self.invariant.1 c.args.changes.now new ∙ ap (replaced_in by_identifier base.features) (sym older),
    )

pub returns : goal.returns
returns c =
    let older = ap (λ (m : LayerFeatures). m.features) c.in_ok-older-2.ensures ∙ c.in_ok-older.ensures in
    more_seen c.self.inside.base.value c.in_ok-base.base.value c.in_ok-base.ensures.cases c.self.inside.older.features c.features.result.now c.args.changes.now c.in_ok-older-2.older.features c.features.ensures.features older c.args.self.now c.self.view_is
