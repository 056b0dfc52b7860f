use Rattle.std.proofs.lemmas.Result.{IfOk-weaker}
use Rattle.sqlite.specs.Held.{state}
use Rattle.cad_tables.proofs.QueryTexts.{range_asks}
use Rattle.cad_tables.proofs.Statements.{ranges}
use Rattle.cad_tables.proofs.reading.listing_between.Goals as goal

pub read_between-requires : goal.read_between-requires
read_between-requires g c = range_asks

pub returns-clause-rows : goal.returns-clause-rows
returns-clause-rows g c =
    IfOk-weaker c.read_between.result _ _ (λ found read. (read.0, λ clean. let shown = read.1 clean in (shown, λ n lines has. ranges (state g.S.Store c.args.conn.now) (state g.S.Store c.read_between.new.conn) n c.args.behind c.args.up_to lines read.0 has shown), read.2)) c.read_between.ensures.shown
