use Rattle.cql_rewrite.proofs.Forms.{offered_by_part}
use Rattle.cql_rewrite.proofs.form.Normal.range.Goals as goal

pub returns-in-And-clause-stands : goal.returns-in-And-clause-stands
returns-in-And-clause-stands c = offered_by_part c.args.self.now c.in-And.parts c.in-And.is c.first_range.result (rw c.deref.ensures.value at c.first_range.ensures.stands)
