use Rattle.std.proofs.Common.{ap, arith, length, ◌∙◌}
use Rattle.cad_layer.proofs.CountedLemmas.{filtered_counted, no_more}
use Rattle.cad_layer.proofs.counting.count_indexed.Goals as goal

pub returns-clause-passing : goal.returns-clause-passing
returns-clause-passing g c = c.count_in.ensures ∙ filtered_counted (g.T.Criterion.passes c.args.criterion.now) c.args.base.now.features

pub returns-clause-few : goal.returns-clause-few
returns-clause-few g c =
    let passes = g.T.Criterion.passes c.args.criterion.now in
    let features = c.args.base.now.features in
    omega (arith, c.count_in.ensures ∙ filtered_counted passes features, no_more passes features, ap length c.features-features.ensures.features, c.features-features.ensures.few)
