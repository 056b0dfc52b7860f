use Rattle.std.proofs.Common.{sym, ◌∙◌, subst}
use Rattle.cad_feature.specs.Features.{AreFeaturesOf}
use Rattle.cad_changes.proofs.AloneLemmas.{alone_fits}
use Rattle.cad_changes.proofs.adding.feature_of.Goals as goal

pub returns-clause-fits : goal.returns-clause-fits
returns-clause-fits c =
    alone_fits c.args.units.now.features c.args.parties.now.features c.args.collection c.args.version.now c.in_ok-features.features.items c.in-Some.feature.now c.in_ok-feature.feature _ (sym c.deref.ensures.value ∙ c.in-Some.ensures.cases.0) c.in_ok-feature.ensures c.in_ok-features.ensures.listed
    (subst (λ k. AreFeaturesOf k c.args.units.now.features) c.requires.units c.are_listed.ensures) (subst (λ k. AreFeaturesOf k c.args.parties.now.features) c.requires.parties c.are_listed-2.ensures)
