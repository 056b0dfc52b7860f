use Rattle.std.proofs.Common.{◌≡◌, true, false, refl, sym, ap, ◌∙◌}
use Rattle.std.proofs.lemmas.Result.{err_from_is_err_and}
use Rattle.cad_versions.specs.LedgerCalls.{Applies}
use Rattle.cad_office.specs.declared.print.Answer.TheVariants.{Refused}
use Rattle.cad_office.specs.Keeping.{AnswersLines}
use Rattle.cad_office.specs.Lines.{line_begun}
use Rattle.cad_office.proofs.AnswerLemmas.{one_came}
use Rattle.cad_office.proofs.PieceLemmas.{line_empty, line_answered, line_refused, line_cut, refused_goes_on}
use Rattle.cad_office.proofs.turns.end_line.Goals as goal

pub returns-then-is_empty : goal.returns-then-is_empty
returns-then-is_empty g c = λ read stands.
    line_empty (AnswersLines (Applies g.L.Ledger) c.args.ledger.now c.args.ledger.now) _ read c.args.line.now stands (sym (c.is_empty.ensures (line_begun read) stands) ∙ c.if-is_empty.true) refl

pub returns-in_err-print_answer : goal.returns-in_err-print_answer
returns-in_err-print_answer g c = λ read stands.
    let filled = sym (c.is_empty.ensures (line_begun read) stands) ∙ c.if-is_empty.false in
    let came = one_came (Applies g.L.Ledger) c.args.ledger.now c.answer_line-answer.new.ledger (line_begun read) _ (c.answer_line-answer.ensures (line_begun read) stands) in
    let cut = line_cut (AnswersLines (Applies g.L.Ledger) c.args.ledger.now c.answer_line-answer.new.ledger) _ _ read c.clear.new.self _ filled c.in_err-print_answer.ensures came in
    let p = err_from_is_err_and c.from_residual.result c.from_residual.ensures.1 in
    rw (p.1, p.2) cut

pub returns-in-Entered : goal.returns-in-Entered
returns-in-Entered g c = λ read stands.
    let filled = sym (c.is_empty.ensures (line_begun read) stands) ∙ c.if-is_empty.false in
    let came = one_came (Applies g.L.Ledger) c.args.ledger.now c.answer_line-answer.new.ledger (line_begun read) _ (c.answer_line-answer.ensures (line_begun read) stands) in
    line_answered (AnswersLines (Applies g.L.Ledger) c.args.ledger.now c.answer_line-answer.new.ledger) _ _ read c.clear.new.self _ true filled c.clear.ensures (rw c.in-Entered.is refl) (rw c.in-Entered.is refl) c.in_ok-print_answer.ensures came

pub returns-then-is_store : goal.returns-then-is_store
returns-then-is_store g c = λ read stands.
    let filled = sym (c.is_empty.ensures (line_begun read) stands) ∙ c.if-is_empty.false in
    let came = one_came (Applies g.L.Ledger) c.args.ledger.now c.answer_line-answer.new.ledger (line_begun read) _ (c.answer_line-answer.ensures (line_begun read) stands) in
    let answer = c.in-Refused.is ∙ ap (λ fault. Refused fault) (c.is_store.ensures.0 c.if-is_store.true) in
    line_refused (AnswersLines (Applies g.L.Ledger) c.args.ledger.now c.answer_line-answer.new.ledger) _ _ read c.clear.new.self filled (rw answer at c.in_ok-print_answer.ensures) (rw answer at came)

pub returns-else-is_store : goal.returns-else-is_store
returns-else-is_store g c = λ read stands.
    let filled = sym (c.is_empty.ensures (line_begun read) stands) ∙ c.if-is_empty.false in
    let came = one_came (Applies g.L.Ledger) c.args.ledger.now c.answer_line-answer.new.ledger (line_begun read) _ (c.answer_line-answer.ensures (line_begun read) stands) in
    let goes = refused_goes_on c.in-Refused.fault (λ store. let clash : true ≡ false = sym (c.is_store.ensures.1 store) ∙ c.if-is_store.false in cc) in
    line_answered (AnswersLines (Applies g.L.Ledger) c.args.ledger.now c.answer_line-answer.new.ledger) _ _ read c.clear.new.self _ false filled c.clear.ensures (rw c.in-Refused.is goes) (rw c.in-Refused.is refl) c.in_ok-print_answer.ensures came

pub returns-in-NotACommand : goal.returns-in-NotACommand
returns-in-NotACommand g c = λ read stands.
    let filled = sym (c.is_empty.ensures (line_begun read) stands) ∙ c.if-is_empty.false in
    let came = one_came (Applies g.L.Ledger) c.args.ledger.now c.answer_line-answer.new.ledger (line_begun read) _ (c.answer_line-answer.ensures (line_begun read) stands) in
    line_answered (AnswersLines (Applies g.L.Ledger) c.args.ledger.now c.answer_line-answer.new.ledger) _ _ read c.clear.new.self _ false filled c.clear.ensures (rw c.in-NotACommand.is refl) (rw c.in-NotACommand.is refl) c.in_ok-print_answer.ensures came
