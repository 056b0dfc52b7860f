use Rattle.cql_meaning.specs.lemmas.TermLemmas.{text_Property}
use Rattle.cql_rewrite.proofs.folded_equality.property.Goals as goal

pub returns-in-Property : goal.returns-in-Property
returns-in-Property c = λ x. rw c.in-Property.is (text_Property x c.in-Property.property)
