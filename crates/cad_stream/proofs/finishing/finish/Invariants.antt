use Rattle.std.proofs.Common.{◌≡◌}
use Rattle.cad_stream.specs.Beginning.{told, pieces_left}
use Rattle.cad_stream.proofs.finishing.finish.Given as goal

abbrev pub invariant-loop-part : goal.invariant-loop-part
invariant-loop-part g l = told g.R.WorkingResponder.owes l.part ≡ told g.R.WorkingResponder.owes l.fn.begun

abbrev pub decreases-loop-part : goal.decreases-loop-part
decreases-loop-part g l = pieces_left g.R.WorkingResponder.remaining l.part
