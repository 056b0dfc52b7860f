use Rattle.cql_meaning.specs.lemmas.NodeLemmas.{sides_CompareText, sides_InText, sides_Like}
use Rattle.cql_rewrite.proofs.folded.settled_filter.Goals as goal

pub returns-then-folds_constant-clause-stands : goal.returns-then-folds_constant-clause-stands
returns-then-folds_constant-clause-stands c = λ x. rw (c.in-CompareText.is, sides_CompareText) (c.in_ok-comparison-in-CompareText.ensures.stands x)

pub returns-then-folds_constant-3-clause-stands : goal.returns-then-folds_constant-3-clause-stands
returns-then-folds_constant-3-clause-stands c = λ x. rw (c.in-Like.is, sides_Like) (c.in_ok-like-in-Like.ensures.stands x)

pub returns-then-folds_constant-5-clause-stands : goal.returns-then-folds_constant-5-clause-stands
returns-then-folds_constant-5-clause-stands c = λ x. rw (c.in-InText.is, sides_InText) (rw c.deref-then-folds_constant-5.ensures.value at (c.in_ok-among-in-InText.ensures.stands x))
