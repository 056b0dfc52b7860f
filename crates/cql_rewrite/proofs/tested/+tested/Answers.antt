use Rattle.std.proofs.Common.{◌≡◌, false, true}
use Rattle.cql_rewrite.proofs.Forms.{meets_And, meets_Folded, meets_LikeFolded, meets_Near, meets_Or, folds_And, folds_LikeFolded, folds_Or}
use Rattle.cql_rewrite.proofs.tested.+tested.Goals as goal

pub test-returns-in-Near-clause-said : goal.test-returns-in-Near-clause-said
test-returns-in-Near-clause-said m c = rw (c.in-Near.is, meets_Near) c.is_said_near.ensures.said

pub test-returns-in-Folded-clause-said : goal.test-returns-in-Folded-clause-said
test-returns-in-Folded-clause-said m c = rw (c.in-Folded.is, meets_Folded) c.has_folded.ensures

pub test-returns-in-LikeFolded-clause-said : goal.test-returns-in-LikeFolded-clause-said
test-returns-in-LikeFolded-clause-said m c = rw (c.in-LikeFolded.is, meets_LikeFolded) c.has_liked_folded.ensures

pub test-returns-in-LikeFolded-clause-answers : goal.test-returns-in-LikeFolded-clause-answers
test-returns-in-LikeFolded-clause-answers m c = rw (c.in-LikeFolded.is, folds_LikeFolded) (λ (e : true ≡ false). absurd cc)

pub test-returns-in-And-clause-said : goal.test-returns-in-And-clause-said
test-returns-in-And-clause-said m c = rw (c.in-And.is, meets_And, ← c.deref.ensures.value) c.meets_all.ensures.said

pub test-returns-in-And-clause-answers : goal.test-returns-in-And-clause-answers
test-returns-in-And-clause-answers m c = rw (c.in-And.is, folds_And, ← c.deref.ensures.value) c.meets_all.ensures.answers

pub test-returns-in-Or-clause-said : goal.test-returns-in-Or-clause-said
test-returns-in-Or-clause-said m c = rw (c.in-Or.is, meets_Or, ← c.deref-in-Or.ensures.value) c.meets_some.ensures.said

pub test-returns-in-Or-clause-answers : goal.test-returns-in-Or-clause-answers
test-returns-in-Or-clause-answers m c = rw (c.in-Or.is, folds_Or, ← c.deref-in-Or.ensures.value) c.meets_some.ensures.answers
