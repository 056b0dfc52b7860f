use Rattle.std.proofs.Common.{ℕ, List, ◌++◌, take}
use Rattle.cad_office.specs.Lines.{BuffersLine}
use Rattle.cad_office_socket.proofs.buffering.add_all.Given as goal

abbrev pub invariant-loop-byte : goal.invariant-loop-byte
invariant-loop-byte l = (text : List ℕ) → BuffersLine text l.fn.line → BuffersLine (text ++ take l.byte-index l.bytes) l.line
