use Rattle.std.proofs.Common.{refl}
use Rattle.cql_meaning.specs.lemmas.NodeLemmas.{sides_Like}
use Rattle.cql_rewrite.proofs.AtomLemmas.{atom_Like}
use Rattle.cql_rewrite.proofs.folded.settled_like.Goals as goal

pub returns-clause-stands : goal.returns-clause-stands
returns-clause-stands c = λ x. rw (sides_Like, c.in_ok-value.ensures x, c.in_ok-pattern.ensures x) refl

pub returns-clause-atom : goal.returns-clause-atom
returns-clause-atom c = atom_Like c.in_ok-value.value c.in_ok-pattern.pattern
