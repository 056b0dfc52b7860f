use Rattle.std.proofs.Common.{◌∙◌, ap, sym}
use Rattle.cad_grid.specs.lemmas.CornerLemmas.{same_block}
use Rattle.cad_lookup.specs.WayLaws.{way_Near}
use Rattle.cad_lookup.specs.Ways.{near_block}
use Rattle.cad_shape.specs.Shapes.{shape_corners}
use Rattle.cad_plan.proofs.full_plans.near_plan.Goals as goal

pub returns : goal.returns
returns c =
    way_Near c.args.property c.bounds.result
    ∙ ap (near_block c.args.property) (sym (same_block c.bounds.result (shape_corners c.args.shape.now) c.bounds.ensures))
