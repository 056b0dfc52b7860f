use Rattle.std.proofs.Common.{◌∙◌, ap}
use Rattle.cql_meaning.specs.lemmas.TermLemmas.{text_Folded}
use Rattle.cql_meaning.specs.Values.{folded_content}
use Rattle.cql_rewrite.proofs.folded.+settled.Goals as goal

pub returns-in_ok-term-in-Folded : goal.returns-in_ok-term-in-Folded
returns-in_ok-term-in-Folded m c = λ x. rw (c.in-Folded.is, text_Folded) (c.in_ok-term-in-Folded.ensures x ∙ ap folded_content (rw c.deref.ensures at (c.in_ok-inner-in-Folded.ensures x)))
