use Rattle.std.proofs.Common.{◌≡◌, [], true, rules}
use Rattle.sqlite.specs.Held.{state}
use Rattle.cad_tables.specs.Texts.{listing_text}
use Rattle.cad_tables.specs.Opening.{is_lacking as lacks}
use Rattle.cad_tables.proofs.OpeningLemmas.{not_understood, prepare_reads, lacking_told}
use Rattle.cad_tables.proofs.opening.has_columns.Goals as goal

pub returns-then-is_lacking-clause-lacks : goal.returns-then-is_lacking-clause-lacks
returns-then-is_lacking-clause-lacks g c clean is =
    let lacking : lacks c.in-Err.error ≡ true = search rules in
    not_understood (state g.S.Store c.args.conn.now) (state g.S.Store c.prepare.new.self) listing_text [] c.in-Err.error (c.in-Err.ensures.err clean []) lacking

pub returns-then-is_lacking-clause-reads : goal.returns-then-is_lacking-clause-reads
returns-then-is_lacking-clause-reads g c =
    let lacking : lacks c.in-Err.error ≡ true = search rules in
    prepare_reads listing_text (state g.S.Store c.args.conn.now) (state g.S.Store c.prepare.new.self) _ c.in-Err.error (λ clean. c.in-Err.ensures.err clean []) (λ ok. lacking_told _ lacking) c.prepare.ensures.mode c.prepare.ensures.survives

pub returns-else-is_lacking-clause-reads : goal.returns-else-is_lacking-clause-reads
returns-else-is_lacking-clause-reads g c =
    prepare_reads listing_text (state g.S.Store c.args.conn.now) (state g.S.Store c.prepare.new.self) _ c.in-Err.error (λ clean. c.in-Err.ensures.err clean []) (λ ok. absurd (cc ok)) c.prepare.ensures.mode c.prepare.ensures.survives
