use Rattle.std.proofs.Common.{refl, sym, ◌∙◌}
use Rattle.cad_office_socket.proofs.TurnLemmas.{rows_turn}
use Rattle.cad_office_socket.proofs.entry.Entry.advance_journal.Goals as goal

pub returns-in-Reading-clause-turn : goal.returns-in-Reading-clause-turn
returns-in-Reading-clause-turn g c =
    rows_turn g.R.Responder g.R.JournalResponder 0 c.args.desk.now c.read_on.new.desk c.args.self.now c.read_on.new.self c.in-Reading.asked c.args.self.now c.read_on.result (sym c.replace.ensures.value ∙ c.in-Reading.is) (refl, refl, refl) c.read_on.ensures
