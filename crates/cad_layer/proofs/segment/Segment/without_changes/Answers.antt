use Rattle.std.proofs.Common.{◌∙◌, ap, subst, sym}
use Rattle.cad_feature.specs.Features.{AreFeaturesOf, by_identifier}
use Rattle.cad_index.specs.Layers.{LayerFeatures}
use Rattle.cad_layer.specs.lemmas.ListedLemmas.{none_listed}
use Rattle.cad_layer.specs.inner.Replaced.{replaced_in}
use Rattle.cad_layer.proofs.ExtentLemmas.{within_alone}
use Rattle.cad_layer.proofs.segment.Segment.without_changes.Goals as goal

pub of-requires : goal.of-requires
of-requires c =
    let f = c.in_ok-indexed.indexed.value in
    let is = c.in_ok-indexed.ensures.ok in
    let none = c.none-recent.ensures.changes in (
      subst (λ (m : LayerFeatures). AreFeaturesOf m.collection m.features) (sym is) c.requires.listed,
      subst (AreFeaturesOf f.collection) (sym none) (none_listed f.collection),
      c.none-recent.ensures.replaced ∙ ap (replaced_in by_identifier f.features) (sym none),
      within_alone c.args.extents c.none-recent.result.extents c.args.indexed.features f.features c.none-recent.result.changes.items c.none-recent.ensures.extents (ap (λ (m : LayerFeatures). m.features) is) none c.requires.within,
    )
