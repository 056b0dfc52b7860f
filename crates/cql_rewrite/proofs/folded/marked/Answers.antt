use Rattle.cql_rewrite.proofs.folded.marked.Goals as goal

pub returns-in-Some-clause-stands : goal.returns-in-Some-clause-stands
returns-in-Some-clause-stands c = λ x. rw c.in-Some.is at (c.in_ok-equality.ensures.stands x)
