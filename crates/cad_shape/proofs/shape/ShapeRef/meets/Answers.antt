use Rattle.cad_shape.specs.Shapes.{lent_shape}
use Rattle.cad_shape.proofs.TestLemmas.{told_of_meeting}
use Rattle.cad_shape.proofs.shape.ShapeRef.meets.Goals as goal

pub returns-clause-test : goal.returns-clause-test
returns-clause-test c = told_of_meeting (lent_shape c.args.self) (lent_shape c.args.other) c.lent_meet.result c.lent_meet.ensures
