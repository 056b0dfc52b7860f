use Rattle.cad_shape.specs.Shapes.{lent_shape, shape_corners}
use Rattle.cad_shape.proofs.ShapeLemmas.{framed}
use Rattle.cad_shape.proofs.relation.is_framed.Goals as goal

pub returns-in-Frame-clause-answer : goal.returns-in-Frame-clause-answer
returns-in-Frame-clause-answer c =
    let h = framed c.bounds.result c.in-Frame.frame (shape_corners (lent_shape c.args.a)) c.bounds.ensures in
    rw c.in-Frame.is (λ t. h.0 (c.covers.ensures.0 t), λ k. c.covers.ensures.1 (h.1 k))
