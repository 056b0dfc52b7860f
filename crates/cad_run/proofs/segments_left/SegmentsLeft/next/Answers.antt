use Rattle.std.proofs.Common.{List, ◌++◌, ap}
use Rattle.cad_feature.specs.Features.{Item, by_identifier}
use Rattle.cad_layer.specs.lemmas.ItemLemmas.{rest_rises}
use Rattle.cad_run.specs.SegmentLeft.{opened_left, segments_ahead, unopened_ahead}
use Rattle.cad_run.proofs.StepLemmas.{closed_rises}
use Rattle.cad_run.proofs.segments_left.SegmentsLeft.next.Goals as goal

pub returns-in-Some-clause-ascending : goal.returns-in-Some-clause-ascending
returns-in-Some-clause-ascending c =
    let s = c.loop-feature.self in
    rest_rises by_identifier c.in-Some.feature.now _ (segments_ahead s) (ap (λ (xs : List Item). xs ++ unopened_ahead s.after s.unopened.now) c.in-Some.ensures) c.loop-feature.invariant.ascending

pub returns-in_err-open_next-clause-ascending : goal.returns-in_err-open_next-clause-ascending
returns-in_err-open_next-clause-ascending c =
    let s = c.loop-feature.self in
    c.open_next.ensures.ascending (closed_rises (opened_left s.opened) (opened_left c.take_first.new.opened) (unopened_ahead s.after s.unopened.now) c.in_default.ensures.0 c.in_default.ensures.1 c.loop-feature.invariant.ascending)

pub returns-then-not-branch-clause-ascending : goal.returns-then-not-branch-clause-ascending
returns-then-not-branch-clause-ascending c =
    let s = c.loop-feature.self in
    c.open_next.ensures.ascending (closed_rises (opened_left s.opened) (opened_left c.take_first.new.opened) (unopened_ahead s.after s.unopened.now) c.in_default.ensures.0 c.in_default.ensures.1 c.loop-feature.invariant.ascending)
