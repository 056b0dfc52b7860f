use Rattle.std.proofs.Common.{refl, sym, ◌∙◌}
use Rattle.std.proofs.lemmas.Result.{err_from_is_err_and}
use Rattle.cad_versions.specs.LedgerCalls.{Applies}
use Rattle.cad_office.specs.Lines.{line_begun}
use Rattle.cad_dry_run.specs.Checking.{ReportsLines}
use Rattle.cad_dry_run.proofs.ReportLemmas.{one_came}
use Rattle.cad_dry_run.proofs.PieceLemmas.{line_empty, line_ended, line_cut}
use Rattle.cad_dry_run.proofs.turns.end_line.Goals as goal

pub returns-then-is_empty : goal.returns-then-is_empty
returns-then-is_empty g c = λ read stands.
    line_empty (ReportsLines (Applies g.L.Ledger) c.args.ledger.now c.args.ledger.now) _ read c.args.line.now stands (sym (c.is_empty.ensures (line_begun read) stands) ∙ c.if-is_empty.true) refl

pub returns-in_err-print_report : goal.returns-in_err-print_report
returns-in_err-print_report g c = λ read stands.
    let filled = sym (c.is_empty.ensures (line_begun read) stands) ∙ c.if-is_empty.false in
    let came = one_came (Applies g.L.Ledger) c.args.ledger.now c.report_of-report.new.ledger (line_begun read) _ (c.report_of-report.ensures (line_begun read) stands) in
    let cut = line_cut (ReportsLines (Applies g.L.Ledger) c.args.ledger.now c.report_of-report.new.ledger) _ _ read c.clear.new.self _ filled c.in_err-print_report.ensures came in
    let p = err_from_is_err_and c.from_residual.result c.from_residual.ensures.1 in
    rw (p.1, p.2) cut

pub returns : goal.returns
returns g c = λ read stands.
    let filled = sym (c.is_empty.ensures (line_begun read) stands) ∙ c.if-is_empty.false in
    let came = one_came (Applies g.L.Ledger) c.args.ledger.now c.report_of-report.new.ledger (line_begun read) _ (c.report_of-report.ensures (line_begun read) stands) in
    line_ended (ReportsLines (Applies g.L.Ledger) c.args.ledger.now c.report_of-report.new.ledger) _ _ read c.clear.new.self _ c.ending.result filled c.clear.ensures c.ending.ensures c.in_ok-print_report.ensures came
