use Rattle.std.proofs.Common.{rules}
use Rattle.cad_office_socket.proofs.journal.lines_of.Goals as goal

pub returns-in-Ok : goal.returns-in-Ok
returns-in-Ok g c = (c.in-Ok.commands, rw c.in-Ok.is at c.journal.ensures, search rules, search rules)
