use Rattle.std.proofs.Common.{FitsSigned, ◌∙◌, rules}
use mir.Syntax.{w128}
use Rattle.std.proofs.lemmas.Int.{to_z-of_z}
use Rattle.cad_shape.proofs.Walks.{area_round}
use Rattle.cad_shape.proofs.area.area_doubled.Goals as goal

pub returns : goal.returns
returns c =
    let f : FitsSigned w128 c.swept_over.result = search rules in
    to_z-of_z w128 c.swept_over.result f ∙ c.swept_over.ensures ∙ area_round c.args.corners.now c.index-corners-corners.result c.requires.some c.index-corners-corners.is
