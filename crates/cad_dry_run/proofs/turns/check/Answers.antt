use Rattle.std.proofs.Common.{◌≡◌, [], take, refl, rules, arith, length-take}
use Rattle.std.proofs.lemmas.Result.{err_from_is_err_and}
use Rattle.std.specs.Io.KnownBytes.{IsAtEnd}
use Rattle.cad_versions.specs.LedgerCalls.{Applies}
use Rattle.cad_dry_run.specs.Checking.{ReportsLines}
use Rattle.cad_dry_run.proofs.KeepingLemmas.{kept_nothing, kept_more, kept_all, kept_failed, kept_last_failed, kept_read_failed, kept_turns_spent, never_spends}
use Rattle.cad_dry_run.proofs.turns.check.Goals as goal

pub loop-turn-init : goal.loop-turn-init
loop-turn-init g c = record {
  counted = omega arith;
  kept = kept_nothing (ReportsLines (Applies g.L.Ledger) c.args.ledger.now c.args.ledger.now) _ _ c.new-line.result c.new-line.ensures refl;
}

pub returns-in-Err-clause-kept : goal.returns-in-Err-clause-kept
returns-in-Err-clause-kept g c =
    kept_read_failed (ReportsLines (Applies g.L.Ledger) c.args.ledger.now c.loop-turn.ledger) (IsAtEnd (g.R.Read.remaining c.read_once.new.self)) c.loop-turn.turn _ _ _ _ _ c.loop-turn.line c.loop-turn.accepted (omega arith) c.loop-turn.invariant.kept c.in-Err.ensures.bytes

pub returns-in_err-last-clause-kept : goal.returns-in_err-last-clause-kept
returns-in_err-last-clause-kept g c =
    let piece : take c.in-Ok.count c.read_once.new.buf ≡ [] = rw c.if-count-eq0.true refl in
    let end : IsAtEnd (g.R.Read.remaining c.read_once.new.self) = search rules in
    let p = err_from_is_err_and c.from_residual.result c.from_residual.ensures.1 in
    rw (p.1, p.2) (kept_last_failed (Applies g.L.Ledger) c.args.ledger.now c.loop-turn.ledger c.end_line.new.ledger (IsAtEnd (g.R.Read.remaining c.read_once.new.self)) c.loop-turn.turn _ _ _ _ _ _ c.loop-turn.line c.end_line.new.line c.loop-turn.accepted _ _ (omega arith) piece end c.loop-turn.invariant.kept c.in-Ok.ensures.bytes.0 c.in_err-last.ensures)

pub returns-then-count-eq0-clause-kept : goal.returns-then-count-eq0-clause-kept
returns-then-count-eq0-clause-kept g c =
    let piece : take c.in-Ok.count c.read_once.new.buf ≡ [] = rw c.if-count-eq0.true refl in
    kept_all (Applies g.L.Ledger) c.args.ledger.now c.loop-turn.ledger c.end_line.new.ledger (IsAtEnd (g.R.Read.remaining c.read_once.new.self)) c.loop-turn.turn _ _ _ _ _ _ c.loop-turn.line c.end_line.new.line c.loop-turn.accepted c.in_ok-last.last _ (omega arith) piece c.loop-turn.invariant.kept c.in-Ok.ensures.bytes.0 c.in_ok-last.ensures

pub returns-in_err-more-clause-kept : goal.returns-in_err-more-clause-kept
returns-in_err-more-clause-kept g c =
    let p = err_from_is_err_and c.from_residual-in_err-more.result c.from_residual-in_err-more.ensures.1 in
    rw (p.1, p.2) (kept_failed (Applies g.L.Ledger) c.args.ledger.now c.loop-turn.ledger c.take_piece.new.ledger (IsAtEnd (g.R.Read.remaining c.read_once.new.self)) c.loop-turn.turn _ _ _ _ _ _ c.loop-turn.line c.take_piece.new.line c.loop-turn.accepted (take c.in-Ok.count c.read_once.new.buf) _ (omega arith) (omega (arith, length-take c.in-Ok.count c.read_once.new.buf)) (omega (arith, length-take c.in-Ok.count c.read_once.new.buf)) c.loop-turn.invariant.kept c.in-Ok.ensures.bytes.0 c.in_err-more.ensures)

pub loop-turn-preserved : goal.loop-turn-preserved
loop-turn-preserved g c = record {
  counted = search rules;
  kept = kept_more (Applies g.L.Ledger) c.args.ledger.now c.loop-turn.ledger c.take_piece.new.ledger c.loop-turn.turn _ _ _ _ _ _ c.loop-turn.line c.take_piece.new.line c.loop-turn.accepted c.in_ok-more.more (take c.in-Ok.count c.read_once.new.buf) (omega (arith, length-take c.in-Ok.count c.read_once.new.buf)) (omega (arith, length-take c.in-Ok.count c.read_once.new.buf)) c.loop-turn.invariant.kept c.in-Ok.ensures.bytes.0 c.in_ok-more.ensures;
}

pub returns-clause-kept : goal.returns-clause-kept
returns-clause-kept g c =
    kept_turns_spent (ReportsLines (Applies g.L.Ledger) c.args.ledger.now c.loop-turn.ledger) (IsAtEnd (g.R.Read.remaining c.loop-turn.reader)) c.loop-turn.turn _ _ _ _ c.loop-turn.line c.loop-turn.accepted (omega arith) c.loop-turn.invariant.kept

pub returns-in_err-last-clause-counted : goal.returns-in_err-last-clause-counted
returns-in_err-last-clause-counted g c =
    let read = c.in-Ok.ensures.counted.0 in
    let so_far = c.loop-turn.invariant.counted in
    let p = err_from_is_err_and c.from_residual.result c.from_residual.ensures.1 in
    let never = never_spends (ReportsLines (Applies g.L.Ledger) c.args.ledger.now c.loop-turn.ledger) (ReportsLines (Applies g.L.Ledger) c.loop-turn.ledger c.end_line.new.ledger) c.loop-turn.turn _ _ _ _ _ c.loop-turn.line c.end_line.new.line c.loop-turn.accepted _ _ c.loop-turn.invariant.kept c.in_err-last.ensures in
    (omega (arith, read, so_far, c.loop-turn-test.true), λ e. absurd (never (rw (p.1, p.2) at e)))

pub returns-in_err-more-clause-counted : goal.returns-in_err-more-clause-counted
returns-in_err-more-clause-counted g c =
    let read = c.in-Ok.ensures.counted.0 in
    let so_far = c.loop-turn.invariant.counted in
    let p = err_from_is_err_and c.from_residual-in_err-more.result c.from_residual-in_err-more.ensures.1 in
    let never = never_spends (ReportsLines (Applies g.L.Ledger) c.args.ledger.now c.loop-turn.ledger) (ReportsLines (Applies g.L.Ledger) c.loop-turn.ledger c.take_piece.new.ledger) c.loop-turn.turn _ _ _ _ _ c.loop-turn.line c.take_piece.new.line c.loop-turn.accepted _ _ c.loop-turn.invariant.kept c.in_err-more.ensures in
    (omega (arith, read, so_far, c.loop-turn-test.true), λ e. absurd (never (rw (p.1, p.2) at e)))
