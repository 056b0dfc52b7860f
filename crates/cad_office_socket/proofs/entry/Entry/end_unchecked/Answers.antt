use Rattle.std.proofs.Common.{◌≡◌, ◌∙◌, ℕ, List, refl, rules, subst, sym}
use Rattle.cad_office.specs.Answers.{printed}
use Rattle.cad_office_socket.specs.Turns.{HasBegun}
use Rattle.cad_office_socket.proofs.TurnLemmas.{asking, empty_text}
use Rattle.cad_office_socket.proofs.entry.Entry.end_unchecked.Goals as goal

pub returns-then-asks_to_stop-clause-line : goal.returns-then-asks_to_stop-clause-line
returns-then-asks_to_stop-clause-line g c = λ text begun. ((c.asks_to_stop.ensures.asked text begun c.if-asks_to_stop.true, refl, c.requires.nothing_unwritten, c.clear.ensures, c.requires.no_journal), refl)

pub returns-then-is_err-clause-line : goal.returns-then-is_err-clause-line
returns-then-is_err-clause-line g c = λ text begun.
    let filled = sym (c.is_empty.ensures text begun) ∙ c.if-is_empty.false in
    let asks = asking text c.args.self.now.line.state c.answer_line-answer.result filled (c.asks_to_stop.ensures.unasked text begun c.if-asks_to_stop.false) (c.requires.unchecked text begun) (c.requires.no_request text begun) (c.requires.no_status text begun) c.answer_line-answer.ensures.unheld in
    ((asks, c.answer_line-answer.ensures.answered text begun, c.requires.nothing_unwritten, c.clear-2.ensures, c.requires.no_journal), refl)

pub returns-then-is_empty-clause-line : goal.returns-then-is_empty-clause-line
returns-then-is_empty-clause-line g c = λ text begun.
    let none = empty_text text (sym (c.is_empty.ensures text begun) ∙ c.if-is_empty.true) in
    ((none, refl, c.requires.nothing_unwritten, subst (λ (t : List ℕ). HasBegun t c.args.self.now) none begun, c.requires.no_journal), refl)

pub returns-clause-line : goal.returns-clause-line
returns-clause-line g c = λ text begun.
    let filled = sym (c.is_empty.ensures text begun) ∙ c.if-is_empty.false in
    let asks = asking text c.args.self.now.line.state c.answer_line-answer.result filled (c.asks_to_stop.ensures.unasked text begun c.if-asks_to_stop.false) (c.requires.unchecked text begun) (c.requires.no_request text begun) (c.requires.no_status text begun) c.answer_line-answer.ensures.unheld in
    let written : c.print_answer.new.writer.items ≡ printed c.answer_line-answer.result = search rules in
    ((asks, c.answer_line-answer.ensures.answered text begun, written, c.clear-2.ensures, c.requires.no_journal), refl)
