use Rattle.std.proofs.Common.{ap, subst, sym, ◌∙◌}
use Rattle.cad_feature.specs.Features.{AreFeaturesOf}
use Rattle.cad_index.specs.Layers.{LayerFeatures}
use Rattle.cad_layer.specs.lemmas.ListedLemmas.{all_listed}
use Rattle.cad_layer.specs.Walks.{all_in}
use Rattle.cad_layer.proofs.segment.Segment.indexed_with.Goals as goal

pub without_changes-requires-clause-listed : goal.without_changes-requires-clause-listed
without_changes-requires-clause-listed c =
    let f = c.args.indexed.now in
    subst (λ (m : LayerFeatures). AreFeaturesOf m.collection m.features) (sym (c.in_ok-indexed.ensures ∙ ap (λ (xs : _). let m : LayerFeatures = record { collection = f.collection; features = all_in f.features xs } in m) c.deref.ensures.value))
    (all_listed f.collection f.features c.args.recent.changes.items c.requires.0 c.requires.1)
