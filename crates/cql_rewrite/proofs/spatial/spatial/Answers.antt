use Rattle.std.proofs.Common.{◌∙◌, ap}
use Rattle.cql_rewrite.specs.Atoms.{is_atom}
use Rattle.cql_rewrite.proofs.AtomLemmas.{atom_Spatial, plain_Atom}
use Rattle.cql_rewrite.proofs.spatial.spatial.Goals as goal

pub returns-then-is_near-clause-stands : goal.returns-then-is_near-clause-stands
returns-then-is_near-clause-stands c = λ x. rw c.if-side.true (c.near.ensures.stands x)

pub returns-clause-atoms : goal.returns-clause-atoms
returns-clause-atoms c = plain_Atom c.args.filter c.args.side ∙ ap is_atom c.requires ∙ atom_Spatial c.args.by c.args.left.now c.args.right.now
