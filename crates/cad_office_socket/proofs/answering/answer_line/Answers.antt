use Rattle.std.proofs.Common.{ℕ, List, Err, sym, ap, ◌∙◌, refl, subst}
use Rattle.cad_commands.specs.Commands.{Says}
use Rattle.cad_office.specs.lemmas.BufferLemmas.{buffered_text}
use Rattle.cad_office_socket.proofs.answering.answer_line.Goals as goal

pub returns-in-Err-NotACommand-clause-answered : goal.returns-in-Err-NotACommand-clause-answered
returns-in-Err-NotACommand-clause-answered g c = λ text stands.
    let same = c.bytes.ensures ∙ buffered_text text _ _ stands (sym c.state.ensures ∙ c.in-Buffered.is) in
    let unread = c.in-Err-NotACommand.is ∙ ap (λ e. Err e) c.in-Err-NotACommand.field-0-is in
    (λ command asks. (rw unread at c.read_command.ensures) command (subst (λ (line : List ℕ). Says line command) (sym same) asks.1), refl)
