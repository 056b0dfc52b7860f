use Rattle.std.proofs.Common.{refl, ne_eqb}
use Rattle.std.proofs.lemmas.Result.{err_from_is_err_and}
use Rattle.cad_versions.specs.LedgerCalls.{Applies}
use Rattle.cad_dry_run.specs.Checking.{ReportsLines}
use Rattle.cad_office.specs.Lines.{line_begun}
use Rattle.cad_dry_run.proofs.PieceLemmas.{piece_byte}
use Rattle.cad_dry_run.proofs.turns.take_byte.Goals as goal

pub returns-in_err-accepted : goal.returns-in_err-accepted
returns-in_err-accepted g c = λ read stands.
    let p = err_from_is_err_and c.from_residual.result c.from_residual.ensures.1 in
    rw (p.1, p.2, c.if-byte-eq10.true) (c.in_err-accepted.ensures read stands)

pub returns-then-byte-eq10 : goal.returns-then-byte-eq10
returns-then-byte-eq10 g c = λ read stands. rw c.if-byte-eq10.true (c.in_ok-accepted.ensures read stands)

pub returns : goal.returns
returns g c = λ read stands.
    piece_byte (ReportsLines (Applies g.L.Ledger) c.args.ledger.now c.args.ledger.now) _ read c.add.new.self c.args.byte (ne_eqb _ _ c.if-byte-eq10.false) (c.add.ensures (line_begun read) stands) refl
