use Rattle.std.proofs.Common.{rules}
use Rattle.sqlite.specs.Values.{bound}
use Rattle.sqlite.specs.State.{HasCleanDisk, FailsToQuery, Survives, CommitsShowing}
use Rattle.sqlite.specs.Held.{state}
use Rattle.cad_tables.proofs.Quiet.{reads_failed}
use Rattle.cad_tables.proofs.RowLemmas.{each_shown, each_refused, each_only_reads}
use Rattle.cad_tables.proofs.reading.read_each.Goals as goal

pub returns-in_err-rows-clause-reads : goal.returns-in_err-rows-clause-reads
returns-in_err-rows-clause-reads g c =
    let old = state g.S.Store c.args.conn.now in
    let new = state g.S.Store c.query.follows.lender-at-none in
    let params = bound c.args.params.now in
    let held = c.query.follows.holds-at-none in
    let survives : Survives old new (CommitsShowing c.args.sql.now params old) = search rules in
    let fails : HasCleanDisk new → FailsToQuery c.args.sql.now params old new c.in_err-rows.field-0.0 = search rules in
    reads_failed c.args.sql.now params old new c.requires c.from_residual.result (search rules) survives c.from_residual.ensures.0 (λ clean. (_, fails clean))

pub returns-clause-shown : goal.returns-clause-shown
returns-clause-shown g c =
    let made = c.in_ok-rows.ensures in
    let rest = c.read_rest.ensures in
    each_shown g.S.Store c.args.sql.now (bound c.args.params.now) c.requires c.args.conn.now c.in_ok-rows.rows.conn.now c.read_rest.new.rows.conn.now made.begun made.survives rest.survives _ (search rules) g.R.Reader.reads c.read_rest.result rest.shown

pub returns-clause-refused : goal.returns-clause-refused
returns-clause-refused g c =
    let made = c.in_ok-rows.ensures in
    let rest = c.read_rest.ensures in
    each_refused g.S.Store c.args.sql.now (bound c.args.params.now) c.requires c.args.conn.now c.in_ok-rows.rows.conn.now c.read_rest.new.rows.conn.now made.begun made.survives rest.survives _ (search rules) g.R.Reader.reads c.read_rest.result rest.refused

pub returns-clause-reads : goal.returns-clause-reads
returns-clause-reads g c =
    let made = c.in_ok-rows.ensures in
    let rest = c.read_rest.ensures in
    each_only_reads g.S.Store c.args.sql.now (bound c.args.params.now) c.requires c.args.conn.now c.in_ok-rows.rows.conn.now c.read_rest.new.rows.conn.now made.begun made.survives rest.survives _ (search rules) g.R.Reader.reads c.read_rest.result (λ alone. rest.mode (made.mode alone)) rest.shown rest.refused
