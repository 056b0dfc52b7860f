use Rattle.cad_shape.proofs.TestLemmas.{meeting, lying_within}
use Rattle.cad_shape.proofs.laws.tests_tell.Goals as goal

pub returns : goal.returns
returns c = λ a b. (meeting a b, lying_within a b)
