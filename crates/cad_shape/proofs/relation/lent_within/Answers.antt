use Rattle.cad_shape.proofs.relation.lent_within.Goals as goal

pub returns-in-Frame-clause-answer : goal.returns-in-Frame-clause-answer
returns-in-Frame-clause-answer c =
    let h = rw c.in-Frame.is at c.is_framed.ensures.answer in
    rw c.in-Frame.is h

pub returns-in-Area-clause-answer : goal.returns-in-Area-clause-answer
returns-in-Area-clause-answer c =
    let h = rw c.in-Area.is at c.is_framed-in-Area.ensures.answer in
    rw c.in-Area.is h
