use Rattle.std.proofs.Common.{refl}
use Rattle.cad_run.specs.SegmentLeft.{segments_ahead}
use Rattle.cad_run.proofs.StepLemmas.{mid_rises}
use Rattle.cad_run.proofs.segments_left.SegmentsLeft.open_next.Goals as goal

pub returns-clause-ascending : goal.returns-clause-ascending
returns-clause-ascending c =
    let s = c.args.self.now in
    let opened = c.in_ok-self.field-0 in
    mid_rises s.sought s.after c.in-Some.segment.now s.unopened.now c.in-Some.behind.now c.in-Some.ensures.cases.0 s.opened opened opened c.requires.closed c.in_ok-self.ensures (segments_ahead s) refl
