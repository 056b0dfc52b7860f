use Rattle.std.proofs.Common.{take}
use Rattle.cad_office_socket.specs.Buffering.{IsOfOneLine}
use Rattle.cad_office_socket.proofs.buffering.first_end.Given as goal

abbrev pub invariant-loop-at : goal.invariant-loop-at
invariant-loop-at l = IsOfOneLine (take l.at l.bytes)
