use Rattle.cql_rewrite.proofs.folded.atom.Goals as goal

pub returns-in-Some-clause-stands : goal.returns-in-Some-clause-stands
returns-in-Some-clause-stands c = λ x. rw c.in-Some.is at (c.in_ok-marked.ensures.stands x)

pub returns-in-Some-clause-atoms : goal.returns-in-Some-clause-atoms
returns-in-Some-clause-atoms c = λ h. rw c.in-Some.is at c.in_ok-marked.ensures.atoms
