use Rattle.std.proofs.Common.{ap, subst, sym, ◌∙◌}
use Rattle.cad_feature.specs.Features.{AreFeaturesOf}
use Rattle.cad_index.specs.Layers.{LayerFeatures}
use Rattle.cad_layer.specs.lemmas.ListedLemmas.{listed_is}
use Rattle.cad_layer.proofs.indexed.Indexed.collection.Goals as goal

pub returns-clause-listed : goal.returns-clause-listed
returns-clause-listed c =
    let inside = c.self.inside in
    let features = sym (ap (λ (f : LayerFeatures). f.features) c.self.view_is) in
    let same = sym (c.collection.ensures.collection ∙ ap (λ (f : LayerFeatures). f.collection) c.shared.ensures) in
    subst (λ k. AreFeaturesOf k c.args.self.now.features) same (listed_is inside.base.value.collection inside.base.value.features inside.older.features c.args.self.now.features features c.self.invariant.0 c.self.invariant.1)
