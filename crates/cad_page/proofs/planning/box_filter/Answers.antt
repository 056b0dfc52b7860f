use Rattle.cad_page.proofs.PlanLemmas.{box_filter_is}
use Rattle.cad_page.proofs.planning.box_filter.Goals as goal

pub returns-in-Some : goal.returns-in-Some
returns-in-Some c =
    box_filter_is c.args.ask.now c.in-Some.bounds c.geometry_place.result c.box_condition.result c.in-Some.is c.geometry_place.ensures c.box_condition.ensures.condition c.box_condition.ensures.says
