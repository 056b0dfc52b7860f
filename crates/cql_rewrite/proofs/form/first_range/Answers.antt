use Rattle.cql_rewrite.proofs.Forms.{part_met}
use Rattle.cql_rewrite.proofs.form.first_range.Goals as goal

pub returns-in-Some-clause-stands : goal.returns-in-Some-clause-stands
returns-in-Some-clause-stands c = λ x h. c.in-Some.ensures.stands x (part_met x c.args.parts.now c.loop-part.part-index c.part-item.result h c.loop-part-test.true c.part-item.is)
