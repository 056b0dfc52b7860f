use Rattle.std.proofs.Common.{refl}
use Rattle.cql_meaning.specs.lemmas.NodeLemmas.{sides_CompareText}
use Rattle.cql_rewrite.proofs.AtomLemmas.{atom_CompareText}
use Rattle.cql_rewrite.proofs.folded.settled_comparison.Goals as goal

pub returns-clause-stands : goal.returns-clause-stands
returns-clause-stands c = λ x. rw (sides_CompareText, c.in_ok-left.ensures x, c.in_ok-right.ensures x) refl

pub returns-clause-atom : goal.returns-clause-atom
returns-clause-atom c = atom_CompareText c.args.by c.in_ok-left.left c.in_ok-right.right
