use Rattle.cad_shape.specs.Shapes.{lent_shape}
use Rattle.cad_shape.proofs.TestLemmas.{told_of_within}
use Rattle.cad_shape.proofs.shape.ShapeRef.within.Goals as goal

pub returns-clause-test : goal.returns-clause-test
returns-clause-test c = told_of_within (lent_shape c.args.self) (lent_shape c.args.other) c.lent_within.result c.lent_within.ensures.judged c.lent_within.ensures.answer
