use Rattle.std.proofs.Common.{subst}
use Rattle.cad_office_socket.specs.Turns.{IsLineEnd}
use Rattle.cad_office_socket.proofs.entry.Entry.end_line.Goals as goal

pub returns-clause-line : goal.returns-clause-line
returns-clause-line g c = rw (c.checked.ensures.same c.in_default.is) at c.end_unchecked.ensures.line

pub answer_status-requires-clause-asked : goal.answer_status-requires-clause-asked
answer_status-requires-clause-asked g c = λ text begun. c.asks_for_status.ensures.asked text begun c.if-asks_for_status.true

pub returns-then-asks_for_status-clause-line : goal.returns-then-asks_for_status-clause-line
returns-then-asks_for_status-clause-line g c =
    subst (λ desk. IsLineEnd g.R.Responder g.R.JournalResponder desk c.args.self.now c.answer_status.result c.checked.new.desk c.answer_status.new.self) (c.checked.ensures.same c.in_default.is) c.answer_status.ensures.line

pub returns-clause-shown : goal.returns-clause-shown
returns-clause-shown g c = c.end_unchecked.ensures.shown c.args.figures.now
