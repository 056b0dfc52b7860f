use Rattle.std.proofs.Common.{◌∙◌, sym}
use Rattle.cql_meaning.specs.lemmas.TermLemmas.{whole_Computed}
use Rattle.cql_meaning.proofs.ConstantLemmas.{stepped_next, stepped_all}
use Rattle.cql_meaning.proofs.constant.+constant_whole.Goals as goal

pub loop-step-init : goal.loop-step-init
loop-step-init m c = λ x.
    let is = c.in-Computed.is in
    let all = whole_Computed x c.in-Computed.first c.in-Computed.steps in
    let first = c.in_ok-value-in-Computed.ensures x in
    let inside = c.deref.ensures in
    let items = c.deref-step-items.ensures.value in
    cc

pub loop-step-preserved : goal.loop-step-preserved
loop-step-preserved m c = λ x.
    let made = c.made-value.ensures in
    let part = c.in_ok-constant_whole-in-Computed.ensures x in
    let next = stepped_next x c.deref-step-items.result.now c.loop-step.step-index c.step-item.result c.loop-step.value c.loop-step-test.true c.step-item.is in
    let so_far = c.loop-step.invariant x in
    cc

pub returns-after-loop-step : goal.returns-after-loop-step
returns-after-loop-step m c = λ x.
    sym (stepped_all x c.deref-step-items.result.now c.loop-step.step-index c.loop-step.value c.loop-step-test.false) ∙ c.loop-step.invariant x
