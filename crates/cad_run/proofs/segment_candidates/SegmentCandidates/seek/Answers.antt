use Rattle.std.proofs.Common.{Some}
use Rattle.cad_run.specs.Slices.{identifier}
use Rattle.cad_run.proofs.LeftLemmas.{sought_in_order, sought_left, sought_passing}
use Rattle.cad_run.specs.Sought.{is_sought}
use Rattle.cad_run.proofs.segment_candidates.SegmentCandidates.seek.Goals as goal

pub invariant_of-self : goal.invariant_of-self
invariant_of-self c =
    let s = c.args.self.now in
    let last = Some (identifier c.args.last) in
    record {
      order = sought_in_order last _ _ _ _ c.seek.ensures c.changes_after-self.ensures s.order;
      passing = sought_passing (is_sought s.sought) last _ s.changes.now _ _ c.seek.ensures c.changes_after-self.ensures s.passing;
    }

pub returns : goal.returns
returns c =
    let s = c.args.self.now in
    sought_left (is_sought s.sought) (Some (identifier c.args.last)) _ _ _ _ c.seek.ensures c.changes_after-self.ensures s.order
