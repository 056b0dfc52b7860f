use Rattle.std.proofs.Common.{◌∙◌, ap}
use Rattle.cql_rewrite.specs.Meets.{side_of}
use Rattle.cql_rewrite.proofs.Forms.{meets_Owned}
use Rattle.cql_rewrite.proofs.AtomLemmas.{plain_Atom, plain_Owned}
use Rattle.cql_rewrite.proofs.folded.settled_atom.Goals as goal

pub returns-in-Some-clause-stands : goal.returns-in-Some-clause-stands
returns-in-Some-clause-stands c = λ x. meets_Owned x c.in-Some.filter c.args.side ∙ ap (side_of c.args.side) (rw c.in-Some.is at (c.in_ok-settled.ensures.stands x))

pub returns-in-Some-clause-atoms : goal.returns-in-Some-clause-atoms
returns-in-Some-clause-atoms c = λ h. plain_Owned c.in-Some.filter c.args.side ∙ rw c.in-Some.is at c.in_ok-settled.ensures.atom

pub returns-in-None-clause-atoms : goal.returns-in-None-clause-atoms
returns-in-None-clause-atoms c = λ h. plain_Atom c.args.filter c.args.side ∙ h
