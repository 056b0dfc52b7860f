use Rattle.std.proofs.Common.{◌≤◌, ◌-◌, length}
use Rattle.cad_stream.proofs.FeedLemmas.{HasReplied}
use Rattle.cad_stream.specs.Beginning.{told_all}
use Rattle.cad_stream.proofs.beginning.begin_requests.Given as goal

abbrev pub invariant-loop-parts : goal.invariant-loop-parts
invariant-loop-parts g l = record {
  within : l.used ≤ length l.bytes;
  replied : HasReplied g.R.Responder l.bytes l.fn.responder l.used (told_all g.R.WorkingResponder.owes l.parts.items) l.responder;
}

abbrev pub decreases-loop-parts : goal.decreases-loop-parts
decreases-loop-parts g l = length l.bytes - l.used
