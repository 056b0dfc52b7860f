use Rattle.cql_rewrite.proofs.likes.likeness.Goals as goal

pub returns-in_ok-form-clause-stands : goal.returns-in_ok-form-clause-stands
returns-in_ok-form-clause-stands c = λ x h. rw c.if-side.true (c.in_ok-form.ensures.stands x h)

pub returns-in_ok-condition-clause-stands : goal.returns-in_ok-condition-clause-stands
returns-in_ok-condition-clause-stands c = λ x h. c.in_ok-condition.ensures.stands x.item
