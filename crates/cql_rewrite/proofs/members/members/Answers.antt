use Rattle.cql_rewrite.proofs.members.members.Goals as goal

pub returns-clause-stands : goal.returns-clause-stands
returns-clause-stands g c = λ x h. c.in_ok-form-2.ensures.stands x
