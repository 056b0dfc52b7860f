use Rattle.std.proofs.Common.{◌∙◌, ap, length, sym, Some}
use Rattle.cad_index.specs.Layers.{LayerFeatures}
use Rattle.cad_layer.specs.lemmas.MomentLemmas.{each_counted}
use Rattle.cad_history.specs.Lent.{features_lent}
use Rattle.cad_history.proofs.moment.FeaturesAt.count.Goals as goal

pub returns-in-Some : goal.returns-in-Some
returns-in-Some c =
    let newest = c.self.inside.newest.now.features in
    c.count_lent.ensures
    ∙ each_counted (features_lent newest (Some c.in-Some.past))
    ∙ ap (λ o. length (features_lent newest o)) (sym c.in-Some.is)
    ∙ ap (λ (m : LayerFeatures). length m.features) c.self.view_is
