use Rattle.std.proofs.Common.{ap}
use Rattle.std.proofs.lemmas.Option.{IfSome_then}
use Rattle.cql_meaning.specs.lemmas.TermLemmas.{text_Folded}
use Rattle.cql_meaning.specs.Values.{folded_content}
use Rattle.cql_rewrite.proofs.folded_equality.folded_property.Goals as goal

pub returns-in-Folded : goal.returns-in-Folded
returns-in-Folded c = IfSome_then c.property.result c.property.ensures (λ p said x. rw (c.in-Folded.is, text_Folded) (ap folded_content (rw c.deref.ensures at (said x))))
