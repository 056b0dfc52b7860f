use Rattle.cql_rewrite.proofs.comparison.formed.Goals as goal

pub returns-in_ok-form-in-None-clause-stands : goal.returns-in_ok-form-in-None-clause-stands
returns-in_ok-form-in-None-clause-stands c = λ x h. c.in_ok-form-in-None.ensures.stands x.item
