use Rattle.std.proofs.Common.{◌∙◌, ap}
use Rattle.cad_run.specs.SegmentLeft.{opened_left, segments_ahead, segments_left}
use Rattle.cad_run.specs.Slices.{identifier}
use Rattle.cad_run.proofs.StepLemmas.{found_on, found_rises, passed_later, passed_on, passed_rises, passed_same}
use Rattle.cad_run.proofs.segments_left.SegmentsLeft.open_one.Goals as goal

pub returns-in-Some-take_first-clause-ascending : goal.returns-in-Some-take_first-clause-ascending
returns-in-Some-take_first-clause-ascending c =
    let mid = c.next_segment.new.self in
    let next = c.in-Some.next in
    let told = c.in-Some.ensures.next in
    found_rises mid.sought mid.after next.segment.now mid.unopened.now next.behind.now told.first mid.opened c.in_ok-self.field-0 c.take_first.new.opened
    (ap opened_left c.next_segment.ensures.opened ∙ c.requires.closed) c.in_ok-self.ensures c.in-Some-take_first.first.now c.in-Some-take_first.ensures
    (segments_ahead c.args.self.now) c.next_segment.ensures.ahead c.requires.ascending

pub returns-in-Some-take_first-clause-onward : goal.returns-in-Some-take_first-clause-onward
returns-in-Some-take_first-clause-onward c =
    let mid = c.next_segment.new.self in
    let next = c.in-Some.next in
    let told = c.in-Some.ensures.next in
    found_on mid.sought mid.after next.segment.now mid.unopened.now next.behind.now told.first mid.opened c.in_ok-self.field-0 c.take_first.new.opened
    (ap opened_left c.next_segment.ensures.opened ∙ c.requires.closed) c.in_ok-self.ensures c.in-Some-take_first.first.now c.in-Some-take_first.ensures
    (segments_ahead c.args.self.now) c.next_segment.ensures.ahead c.requires.ascending

pub returns-in-None-clause-ascending : goal.returns-in-None-clause-ascending
returns-in-None-clause-ascending c =
    let mid = c.next_segment.new.self in
    let next = c.in-Some.next in
    let told = c.in-Some.ensures.next in
    passed_rises mid.sought mid.after next.segment.now mid.unopened.now next.behind.now told.first mid.opened c.in_ok-self.field-0 c.take_first.new.opened
    (ap opened_left c.next_segment.ensures.opened ∙ c.requires.closed) c.in_ok-self.ensures (identifier next.last) told.end c.in-None.ensures.0 c.in-None.ensures.1
    (segments_ahead c.args.self.now) c.next_segment.ensures.ahead c.requires.ascending

pub returns-in-None-clause-onward : goal.returns-in-None-clause-onward
returns-in-None-clause-onward c =
    let mid = c.next_segment.new.self in
    let next = c.in-Some.next in
    let told = c.in-Some.ensures.next in
    passed_on mid.sought mid.after next.segment.now mid.unopened.now next.behind.now told.first mid.opened c.in_ok-self.field-0 c.take_first.new.opened
    (ap opened_left c.next_segment.ensures.opened ∙ c.requires.closed) c.in_ok-self.ensures (identifier next.last) told.end c.in-None.ensures.0 c.in-None.ensures.1
    (segments_ahead c.args.self.now) c.next_segment.ensures.ahead c.requires.ascending

pub returns-in-None-clause-step : goal.returns-in-None-clause-step
returns-in-None-clause-step c =
    let mid = c.next_segment.new.self in
    let next = c.in-Some.next in
    let told = c.in-Some.ensures.next in
    let closed = ap opened_left c.next_segment.ensures.opened ∙ c.requires.closed in
    let left = segments_left c.args.self.now in (
      passed_same mid.sought mid.after next.segment.now mid.unopened.now next.behind.now told.first mid.opened c.in_ok-self.field-0 c.take_first.new.opened closed c.in_ok-self.ensures
          (identifier next.last) told.end c.in-None.ensures.0 c.in-None.ensures.1 left c.next_segment.ensures.left,
      passed_later mid.sought mid.after next.segment.now mid.unopened.now next.behind.now told.first mid.opened c.in_ok-self.field-0 c.take_first.new.opened closed c.in_ok-self.ensures
          (identifier next.last) told.end c.in-None.ensures.0 c.in-None.ensures.1 left (segments_ahead c.args.self.now) c.next_segment.ensures.left c.next_segment.ensures.ahead c.requires.ascending,
    )
