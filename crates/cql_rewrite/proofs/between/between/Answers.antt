use Rattle.cql_rewrite.proofs.between.between.Goals as goal

pub returns-in-Some-clause-stands : goal.returns-in-Some-clause-stands
returns-in-Some-clause-stands c = λ x h. rw (c.if-side.true, h) (c.in-Some.ensures.says x)

pub returns-in-Some-form-clause-stands : goal.returns-in-Some-form-clause-stands
returns-in-Some-form-clause-stands c = λ x h. rw h (rw c.in-Some-form.is at (c.in_ok-form.ensures.stands x))
