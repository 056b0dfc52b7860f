use Rattle.std.proofs.Common.{◌≡◌}
use Rattle.cad_stream.specs.Beginning.{told, pieces_left}
use Rattle.cad_server.specs.Works.{remaining_of, reply_owed}
use Rattle.cad_server.proofs.working.finish.Given as goal

abbrev pub invariant-loop-part : goal.invariant-loop-part
invariant-loop-part l = told reply_owed l.part ≡ told reply_owed l.fn.begun

abbrev pub decreases-loop-part : goal.decreases-loop-part
decreases-loop-part l = pieces_left remaining_of l.part
