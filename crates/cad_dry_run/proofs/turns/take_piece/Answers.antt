use Rattle.std.proofs.Common.{◌≡◌, ◌+◌, ◌++◌, [], ◌∷◌, take, drop, take_all, refl, sym, ap, ◌∙◌, get_or}
use Rattle.std.proofs.lemmas.List.{take-append-drop, take_more}
use Rattle.std.proofs.lemmas.Result.{err_from_is_err_and}
use Rattle.cad_versions.specs.LedgerCalls.{Applies}
use Rattle.cad_dry_run.specs.Checking.{ReportsLines}
use Rattle.cad_dry_run.proofs.PieceLemmas.{piece_nothing, piece_more, piece_failed}
use Rattle.cad_dry_run.proofs.turns.take_piece.Goals as goal

pub loop-byte-init : goal.loop-byte-init
loop-byte-init g c = λ read stands.
    piece_nothing (ReportsLines (Applies g.L.Ledger) c.args.ledger.now c.args.ledger.now) _ read c.args.line.now stands refl

pub returns-in_err-more : goal.returns-in_err-more
returns-in_err-more g c = λ read stands.
    let i = c.loop-byte.byte-index in
    let xs = c.args.piece.now in
    let whole : (take i xs ++ get_or xs i 0 ∷ []) ++ drop (i + 1) xs ≡ xs = ap (λ front. front ++ drop (i + 1) xs) (sym (take_more xs i 0 c.loop-byte-test.true)) ∙ take-append-drop (i + 1) xs in
    let p = err_from_is_err_and c.from_residual.result c.from_residual.ensures.1 in
    let failed = piece_failed (Applies g.L.Ledger) c.args.ledger.now c.loop-byte.ledger c.take_byte.new.ledger _ _ _ read c.loop-byte.line c.take_byte.new.line (take i xs) (get_or xs i 0 ∷ []) (drop (i + 1) xs) c.loop-byte.accepted _ (c.loop-byte.invariant read stands) c.in_err-more.ensures in
    rw (p.1, p.2) (rw whole at failed)

pub loop-byte-preserved : goal.loop-byte-preserved
loop-byte-preserved g c = λ read stands.
    let i = c.loop-byte.byte-index in
    let xs = c.args.piece.now in
    let more = piece_more (Applies g.L.Ledger) c.args.ledger.now c.loop-byte.ledger c.take_byte.new.ledger _ _ _ read c.loop-byte.line c.take_byte.new.line (take i xs) (get_or xs i 0 ∷ []) c.loop-byte.accepted c.in_ok-more.more (c.loop-byte.invariant read stands) c.in_ok-more.ensures in
    rw (take_more xs i 0 c.loop-byte-test.true) more

pub returns : goal.returns
returns g c = λ read stands.
    rw (take_all c.loop-byte.byte-index c.args.piece.now c.loop-byte-test.false) at (c.loop-byte.invariant read stands)
