use Rattle.cad_shape.specs.Shapes.{shape_corners}
use Rattle.cad_grid.specs.lemmas.CornerLemmas.{same_block}
use Rattle.cql_rewrite.proofs.tested.is_near_value.Goals as goal

pub returns-in-Some : goal.returns-in-Some
returns-in-Some c =
    let e = same_block c.bounds.result (shape_corners c.args.shape.now) c.bounds.ensures in
    let h = c.in-Some.ensures in
    let o = c.of.ensures in
    let b = c.of-in-Some.ensures in
    let n = c.are_near.ensures in
    cc
