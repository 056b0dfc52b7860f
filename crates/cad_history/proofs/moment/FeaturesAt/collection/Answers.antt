use Rattle.std.proofs.Common.{sym, ap, subst}
use Rattle.cad_feature.specs.Features.{AreFeaturesOf}
use Rattle.cad_index.specs.Layers.{LayerFeatures}
use Rattle.cad_history.proofs.LentLemmas.{lent_listed}
use Rattle.cad_history.proofs.moment.FeaturesAt.collection.Goals as goal

pub returns-clause-listed : goal.returns-clause-listed
returns-clause-listed c =
    let newest = c.self.inside.newest.now in
    subst (λ k. AreFeaturesOf k c.args.self.now.features) (sym c.collection.ensures.collection)
    (subst (AreFeaturesOf newest.collection) (ap (λ (m : LayerFeatures). m.features) c.self.view_is)
    (lent_listed newest c.self.inside.past (subst (λ k. AreFeaturesOf k newest.features) c.collection.ensures.collection c.collection.ensures.listed) c.self.invariant))
