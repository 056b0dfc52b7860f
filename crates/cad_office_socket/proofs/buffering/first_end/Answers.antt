use Rattle.std.proofs.Common.{take_all}
use Rattle.cad_office_socket.proofs.BufferLemmas.{one_line_more}
use Rattle.cad_office_socket.proofs.buffering.first_end.Goals as goal

pub loop-at-preserved : goal.loop-at-preserved
loop-at-preserved c = one_line_more c.loop-at.at c.args.bytes.now c.loop-at-test.true c.loop-at.invariant c.if-bytes-at-eq10.false

pub returns-clause-before : goal.returns-clause-before
returns-clause-before c = rw (take_all c.loop-at.at c.args.bytes.now c.loop-at-test.false) at c.loop-at.invariant
