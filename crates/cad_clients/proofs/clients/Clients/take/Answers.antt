use Rattle.std.proofs.Common.{sym}
use Rattle.cad_clients.proofs.SlotLemmas.{slot_emptied, none_beyond, none_changed}
use Rattle.cad_clients.proofs.clients.Clients.take.Goals as goal

pub returns-then-c-lt-ROOM-clause-rest : goal.returns-then-c-lt-ROOM-clause-rest
returns-then-c-lt-ROOM-clause-rest g c = λ d. slot_emptied c.args.self.now.slots.items c.args.c d c.take.new.self (rw c.args.self.now.room c.if-c-lt-ROOM.true) c.take.ensures.after

pub returns-else-c-lt-ROOM-clause-was : goal.returns-else-c-lt-ROOM-clause-was
returns-else-c-lt-ROOM-clause-was g c = sym (none_beyond c.args.self.now c.args.c c.if-c-lt-ROOM.false)

pub returns-else-c-lt-ROOM-clause-rest : goal.returns-else-c-lt-ROOM-clause-rest
returns-else-c-lt-ROOM-clause-rest g c = none_changed c.args.self.now c.args.c (none_beyond c.args.self.now c.args.c c.if-c-lt-ROOM.false)
