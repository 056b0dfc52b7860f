use Rattle.std.proofs.Common.{arith}
use Rattle.cad_feature.proofs.version_rows.start_of.Goals as goal

pub returns-clause-stays : goal.returns-clause-stays
returns-clause-stays c = λ collection n low high. c.last_change-change.ensures.stays collection n (omega (arith, low, c.later.ensures.other)) (omega (arith, high, c.from.ensures))
