use Rattle.std.proofs.Common.{refl}
use Rattle.cql_rewrite.proofs.Forms.{met_by_all}
use Rattle.cql_rewrite.proofs.Least.{all_of_some}
use Rattle.cql_rewrite.proofs.parts.has_always.Goals as goal

pub returns-then-is_always-clause-stands : goal.returns-then-is_always-clause-stands
returns-then-is_always-clause-stands c = λ h x. met_by_all x c.args.parts.now c.loop-part.part-index c.part-item.result (c.if-is_always.ensures refl) c.loop-part-test.true c.part-item.is

pub returns-then-is_always-clause-costs : goal.returns-then-is_always-clause-costs
returns-then-is_always-clause-costs c = λ h t. all_of_some t c.args.parts.now c.loop-part.part-index c.part-item.result (c.if-is_always.ensures refl) c.loop-part-test.true c.part-item.is
