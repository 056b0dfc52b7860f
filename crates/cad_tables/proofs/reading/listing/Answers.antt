use Rattle.std.proofs.lemmas.Result.{IfOk-weaker}
use Rattle.sqlite.specs.Held.{state}
use Rattle.cad_tables.proofs.QueryTexts.{listing_asks}
use Rattle.cad_tables.proofs.Statements.{lists}
use Rattle.cad_tables.proofs.reading.listing.Goals as goal

pub read_for-requires : goal.read_for-requires
read_for-requires g c = listing_asks

pub returns-clause-rows : goal.returns-clause-rows
returns-clause-rows g c =
    IfOk-weaker c.read_for.result _ _ (λ found read. (read.0, λ clean. let shown = read.1 clean in (shown, λ n lines has. lists (state g.S.Store c.args.conn.now) (state g.S.Store c.read_for.new.conn) n c.args.revision lines read.0 has shown), read.2)) c.read_for.ensures.shown
