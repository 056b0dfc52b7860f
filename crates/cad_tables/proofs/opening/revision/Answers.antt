use Rattle.std.proofs.Common.{◌≡◌, inl, inr, true, refl, rules}
use Rattle.std.proofs.lemmas.Result.{IfOk-weaker}
use Rattle.sqlite.specs.Held.{state}
use Rattle.cad_tables.specs.Opening.{is_lacking as lacks}
use Rattle.cad_tables.proofs.RefusalLemmas.{if_err_then}
use Rattle.cad_tables.proofs.OpeningLemmas.{tells, revision_reads}
use Rattle.cad_tables.proofs.opening.revision.Goals as goal

pub returns-in-Ok-clause-found : goal.returns-in-Ok-clause-found
returns-in-Ok-clause-found g c clean =
    IfOk-weaker c.stored_revision.result _ _ (λ found is. inl (c.in-Ok.row, c.in-Ok.ensures.row clean, is)) c.stored_revision.ensures.exact

pub returns-in-Ok-clause-stands : goal.returns-in-Ok-clause-stands
returns-in-Ok-clause-stands g c clean =
    IfOk-weaker c.stored_revision.result _ _ (λ found told n lines has low. tells (state g.S.Store c.args.conn.now) (state g.S.Store c.query_row.new.self) n lines has low found told) (returns-in-Ok-clause-found g c clean)

pub returns-in-Ok-clause-refused : goal.returns-in-Ok-clause-refused
returns-in-Ok-clause-refused g c clean =
    if_err_then c.stored_revision.result c.stored_revision.ensures.memory (λ fault is. inl (c.in-Ok.row, c.in-Ok.ensures.row clean, is))

pub returns-in-Ok-clause-reads : goal.returns-in-Ok-clause-reads
returns-in-Ok-clause-reads g c =
    revision_reads (state g.S.Store c.args.conn.now) (state g.S.Store c.query_row.new.self) c.stored_revision.result (λ clean. (_, c.query_row.ensures.row clean)) (returns-in-Ok-clause-found g c) c.query_row.ensures.mode c.query_row.ensures.survives

pub returns-then-is_lacking-clause-found : goal.returns-then-is_lacking-clause-found
returns-then-is_lacking-clause-found g c clean =
    let lacking : lacks c.in-Err.error ≡ true = search rules in
    inr (c.in-Err.error, c.in-Err.ensures.row clean, lacking, refl)

pub returns-then-is_lacking-clause-stands : goal.returns-then-is_lacking-clause-stands
returns-then-is_lacking-clause-stands g c clean n lines has low =
    tells (state g.S.Store c.args.conn.now) (state g.S.Store c.query_row.new.self) n lines has low _ (returns-then-is_lacking-clause-found g c clean)

pub returns-then-is_lacking-clause-reads : goal.returns-then-is_lacking-clause-reads
returns-then-is_lacking-clause-reads g c =
    revision_reads (state g.S.Store c.args.conn.now) (state g.S.Store c.query_row.new.self) _ (λ clean. (_, c.query_row.ensures.row clean)) (returns-then-is_lacking-clause-found g c) c.query_row.ensures.mode c.query_row.ensures.survives

pub returns-else-is_lacking-clause-reads : goal.returns-else-is_lacking-clause-reads
returns-else-is_lacking-clause-reads g c =
    revision_reads (state g.S.Store c.args.conn.now) (state g.S.Store c.query_row.new.self) _ (λ clean. (_, c.query_row.ensures.row clean)) (λ clean. tt) c.query_row.ensures.mode c.query_row.ensures.survives
