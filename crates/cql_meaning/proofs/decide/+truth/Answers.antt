use Rattle.std.proofs.lemmas.Bool.{false≢true}
use Rattle.cql_meaning.specs.lemmas.NodeLemmas.{sides_InDay, sides_InFlag, sides_InText, sides_InWhole}
use Rattle.cql_meaning.specs.Said.{said}
use Rattle.cql_meaning.proofs.FoldingLemmas.{no_part_folds}
use Rattle.cql_meaning.proofs.PartLemmas.{and_more, or_more}
use Rattle.cql_meaning.proofs.decide.+truth.Goals as goal

pub truth-returns-in-InWhole-clause-said : goal.truth-returns-in-InWhole-clause-said
truth-returns-in-InWhole-clause-said t c = rw (c.in-InWhole.is, sides_InWhole, ← c.whole-in-InWhole.ensures, ← c.deref.ensures.value) c.in_wholes.ensures

pub truth-returns-in_ok-value-in-InText-clause-said : goal.truth-returns-in_ok-value-in-InText-clause-said
truth-returns-in_ok-value-in-InText-clause-said t c = rw (c.in-InText.is, sides_InText, ← c.in_ok-value-in-InText.ensures.value, ← c.deref-in-InText.ensures.value) c.in_texts.ensures.said

pub truth-returns-in-InDay-clause-said : goal.truth-returns-in-InDay-clause-said
truth-returns-in-InDay-clause-said t c = rw (c.in-InDay.is, sides_InDay, ← c.day-in-InDay.ensures, ← c.deref-in-InDay.ensures.value) c.in_days.ensures

pub truth-returns-in-InFlag-clause-said : goal.truth-returns-in-InFlag-clause-said
truth-returns-in-InFlag-clause-said t c = rw (c.in-InFlag.is, sides_InFlag, ← c.flag-in-InFlag.ensures, ← c.deref-in-InFlag.ensures.value) c.in_flags.ensures

pub conjunction-returns-in_err-truth-clause-answers : goal.conjunction-returns-in_err-truth-clause-answers
conjunction-returns-in_err-truth-clause-answers t c =
    λ h. absurd (false≢true (c.in_err-truth.ensures.answers (no_part_folds c.args.parts.now c.loop-part.part-index c.part-item.result h c.loop-part-test.true c.part-item.is)))

pub conjunction-loop-part-preserved : goal.conjunction-loop-part-preserved
conjunction-loop-part-preserved t c =
    and_more c.args.feature.now (said c.loop-part.all) _ (said c.and-all.result) c.part-item.result c.args.parts.now c.loop-part.part-index c.loop-part.invariant c.loop-part-test.true c.part-item.is c.in_ok-truth.ensures.said c.and-all.ensures

pub disjunction-returns-in_err-truth-clause-answers : goal.disjunction-returns-in_err-truth-clause-answers
disjunction-returns-in_err-truth-clause-answers t c =
    λ h. absurd (false≢true (c.in_err-truth.ensures.answers (no_part_folds c.args.parts.now c.loop-part.part-index c.part-item.result h c.loop-part-test.true c.part-item.is)))

pub disjunction-loop-part-preserved : goal.disjunction-loop-part-preserved
disjunction-loop-part-preserved t c =
    or_more c.args.feature.now (said c.loop-part.some) _ (said c.or-some.result) c.part-item.result c.args.parts.now c.loop-part.part-index c.loop-part.invariant c.loop-part-test.true c.part-item.is c.in_ok-truth.ensures.said c.or-some.ensures
