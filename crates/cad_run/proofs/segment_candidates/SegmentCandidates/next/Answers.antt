use Rattle.std.proofs.Common.{◌∙◌, sym}
use Rattle.cad_layer.specs.lemmas.ItemLemmas.{front_as}
use Rattle.cad_run.proofs.FrontLemmas.{taken_behind}
use Rattle.cad_run.proofs.LeftLemmas.{still_in_order, still_passing, change_given, change_skipped, taken_in_order, taken_passing, base_before, base_alone, given_of}
use Rattle.cad_run.specs.Sought.{is_sought}
use Rattle.cad_run.proofs.segment_candidates.SegmentCandidates.next.Goals as goal

pub invariant_of-self : goal.invariant_of-self
invariant_of-self c =
    let s = c.loop-change.self in
    let taken = taken_behind c.next.result c.feature-feature.result.now _ _ _ (sym c.if-not-give_way.true ∙ c.give_way.ensures.first) c.give_way.ensures.rest c.next.ensures in
    record {
      order = taken_in_order (is_sought s.sought) _ s.changes.now _ s.order s.passing c.next.result taken;
      passing = taken_passing (is_sought s.sought) _ s.changes.now _ s.order s.passing c.next.result taken;
    }

pub returns-then-not-give_way : goal.returns-then-not-give_way
returns-then-not-give_way c =
    let s = c.loop-change.self in
    let behind = sym c.if-not-give_way.true ∙ c.give_way.ensures.first in
    let taken = taken_behind c.next.result c.feature-feature.result.now _ _ _ behind c.give_way.ensures.rest c.next.ensures in
    given_of (is_sought s.sought) c.next.result _ _ _ c.loop-change.invariant (base_before (is_sought s.sought) _ s.changes.now _ s.order s.passing c.next.result c.feature-feature.result.now _ (front_as _ _ _ _ c.in-Some.ensures.cases.0 c.feature-feature.ensures) behind taken)

pub invariant_of-self-in-Some : goal.invariant_of-self-in-Some
invariant_of-self-in-Some c =
    let s = c.loop-change.self in
    record {
      order = still_in_order (is_sought s.sought) _ _ _ c.feature-feature.result.now _ (front_as _ _ _ _ c.in-Some.ensures.cases.0 c.feature-feature.ensures) c.give_way.ensures.rest s.order;
      passing = still_passing (is_sought s.sought) _ _ _ c.feature-feature.result.now _ (front_as _ _ _ _ c.in-Some.ensures.cases.0 c.feature-feature.ensures) c.give_way.ensures.rest s.passing;
    }

pub returns-then-has : goal.returns-then-has
returns-then-has c =
    let s = c.loop-change.self in
    sym c.loop-change.invariant
    ∙ change_given (is_sought s.sought) _ _ _ c.feature-feature.result.now _ (front_as _ _ _ _ c.in-Some.ensures.cases.0 c.feature-feature.ensures) c.give_way.ensures.rest (sym c.if-not-give_way.false ∙ c.give_way.ensures.first) s.order (sym c.has.ensures ∙ c.if-has.true)

pub loop-change-preserved : goal.loop-change-preserved
loop-change-preserved c =
    let s = c.loop-change.self in
    sym (change_skipped (is_sought s.sought) _ _ _ c.feature-feature.result.now _ (front_as _ _ _ _ c.in-Some.ensures.cases.0 c.feature-feature.ensures) c.give_way.ensures.rest (sym c.if-not-give_way.false ∙ c.give_way.ensures.first) s.order (sym c.has.ensures ∙ c.if-has.false))
    ∙ c.loop-change.invariant

pub invariant_of-self-2 : goal.invariant_of-self-2
invariant_of-self-2 c =
    let s = c.loop-change.self in
    record {
      order = taken_in_order (is_sought s.sought) _ s.changes.now _ s.order s.passing c.next-2.result c.next-2.ensures;
      passing = taken_passing (is_sought s.sought) _ s.changes.now _ s.order s.passing c.next-2.result c.next-2.ensures;
    }

pub returns : goal.returns
returns c =
    let s = c.loop-change.self in
    given_of (is_sought s.sought) c.next-2.result _ _ _ c.loop-change.invariant (base_alone (is_sought s.sought) _ s.changes.now _ s.order s.passing c.next-2.result c.in_default.ensures.cases c.next-2.ensures)
