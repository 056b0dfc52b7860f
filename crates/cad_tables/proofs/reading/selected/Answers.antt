use Rattle.sqlite.specs.Held.{state}
use Rattle.cad_tables.proofs.Quiet.{reads_shown, reads_failed}
use Rattle.cad_tables.proofs.reading.selected.Goals as goal

pub returns-clause-reads : goal.returns-clause-reads
returns-clause-reads g c =
    reads_shown c.args.sql.now _ (state g.S.Store c.args.conn.now) (state g.S.Store c.query_all.new.self) c.requires _ c.query_all.ensures.mode c.query_all.ensures.survives (λ clean. (_, c.in_ok-rows.ensures.ok clean))

pub returns-in_err-rows-clause-reads : goal.returns-in_err-rows-clause-reads
returns-in_err-rows-clause-reads g c =
    reads_failed c.args.sql.now _ (state g.S.Store c.args.conn.now) (state g.S.Store c.query_all.new.self) c.requires _ c.query_all.ensures.mode c.query_all.ensures.survives c.from_residual.ensures.0 (λ clean. (_, c.in_err-rows.ensures.err clean))
