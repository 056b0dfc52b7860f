use Rattle.std.proofs.Common.{arith}
use Rattle.std.proofs.lemmas.Grind.{common_steps}
use Rattle.cad_run.proofs.joining.joined.Goals as goal

pub loop-part-preserved : goal.loop-part-preserved
loop-part-preserved c = λ k. grind (arith, common_steps, c.loop-part.invariant k, c.in_ok-source.ensures k)
