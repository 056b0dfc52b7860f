use Rattle.cad_shape.proofs.relation.within.Goals as goal

pub returns-clause-answer : goal.returns-clause-answer
returns-clause-answer c = rw (← c.lent.ensures, ← c.lent-2.ensures) c.within.ensures.answer
