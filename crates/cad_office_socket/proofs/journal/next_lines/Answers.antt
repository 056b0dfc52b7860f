use Rattle.std.proofs.Common.{rules}
use Rattle.cad_office_socket.proofs.journal.next_lines.Goals as goal

pub returns : goal.returns
returns g c = (c.next_piece.new.self, search rules, c.rest.ensures)
