use Rattle.cad_run.specs.Slices.{identifier}
use Rattle.cad_run.proofs.SourceLemmas.{ahead_sought, segments_sought}
use Rattle.cad_run.proofs.segments_left.SegmentsLeft.seek.Goals as goal

pub returns-clause-left : goal.returns-clause-left
returns-clause-left c =
    let old = c.args.self.now in
    segments_sought old.sought old.after (identifier c.args.last) c.later_of.result old.opened c.seek_in.new.opened old.unopened.now c.segments_from-self.result.now
    c.later_of.ensures.later (c.segments_from-self.ensures.after c.args.last.1) c.seek_in.ensures

pub returns-clause-ahead : goal.returns-clause-ahead
returns-clause-ahead c =
    let old = c.args.self.now in
    ahead_sought old.sought old.after (identifier c.args.last) c.later_of.result old.opened c.seek_in.new.opened old.unopened.now c.segments_from-self.result.now
    c.later_of.ensures.later (c.segments_from-self.ensures.after c.args.last.1) c.seek_in.ensures
