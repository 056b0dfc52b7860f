use Rattle.cql_rewrite.proofs.parts.pair.Goals as goal

pub returns-in_ok-form-clause-stands : goal.returns-in_ok-form-clause-stands
returns-in_ok-form-clause-stands c = λ x. rw c.if-all.true (c.in_ok-form.ensures.stands x)

pub returns-in_ok-form-2-clause-stands : goal.returns-in_ok-form-2-clause-stands
returns-in_ok-form-2-clause-stands c = λ x. rw c.if-all.false (c.in_ok-form-2.ensures.stands x)
