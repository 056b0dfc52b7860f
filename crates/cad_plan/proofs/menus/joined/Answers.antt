use Rattle.std.proofs.Common.{◌∙◌, ap, map, ◌++◌}
use Rattle.cad_lookup.specs.WayLaws.{way_Join}
use Rattle.cad_lookup.specs.Ways.{counts_of, join_of, way_of, ways_in}
use Rattle.cql_rewrite.specs.Menus.{choice}
use Rattle.cad_plan.proofs.menus.joined.Goals as goal

pub returns : goal.returns
returns c =
    let choices = map (choice (counts_of c.args.features.now.features)) c.args.parts.now in
    way_Join c.add_choices.new.plans
    ∙ ap (λ ws. join_of (ways_in ws)) (c.in_ok-add_choices.ensures ∙ ap (λ ps. map way_of ps ++ choices) c.new-plans.ensures.items)
