use Rattle.std.proofs.Common.{refl}
use Rattle.cad_office_socket.proofs.entry.Entry.answer_status.Goals as goal

pub returns-in_default-clause-line : goal.returns-in_default-clause-line
returns-in_default-clause-line g c = λ text begun. ((c.requires.asked text begun, refl, c.requires.nothing_unwritten, c.clear.ensures, c.requires.no_journal), refl)

pub returns-clause-line : goal.returns-clause-line
returns-clause-line g c = λ text begun. (((c.requires.asked text begun, c.summary-summary.ensures, refl), c.in-Ok.ensures, c.clear.ensures, c.requires.no_journal), refl)
