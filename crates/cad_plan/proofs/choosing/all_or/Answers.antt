use Rattle.std.proofs.Common.{◌∙◌, ap, sym, arith}
use Rattle.cad_lookup.specs.WayLaws.{cost_all, way_All}
use Rattle.cad_lookup.specs.Ways.{all_features, cost, counts_of, way_of}
use Rattle.cql_rewrite.specs.inner.Choices.{cheaper_goes, cheaper_stays}
use Rattle.cad_plan.proofs.choosing.all_or.Goals as goal

pub returns-then-offered-every-clause-way : goal.returns-then-offered-every-clause-way
returns-then-offered-every-clause-way c =
    let counts = counts_of c.args.features.now.features in
    sym (cheaper_goes counts all_features (way_of c.args.offered.plan) (omega (arith, c.if-offered-every.true, c.requires.cost, c.requires.every, cost_all counts)))

pub returns-else-offered-every-clause-way : goal.returns-else-offered-every-clause-way
returns-else-offered-every-clause-way c =
    let counts = counts_of c.args.features.now.features in
    way_All ∙ sym (cheaper_stays counts all_features (way_of c.args.offered.plan) (omega (arith, c.if-offered-every.false, c.requires.cost, c.requires.every, cost_all counts)))

pub returns-else-offered-every-clause-cost : goal.returns-else-offered-every-clause-cost
returns-else-offered-every-clause-cost c =
    let counts = counts_of c.args.features.now.features in
    c.requires.every ∙ sym (ap (cost counts) way_All ∙ cost_all counts)
