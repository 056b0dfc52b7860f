use Rattle.std.proofs.Common.{◌≡◌, [], true, rules}
use Rattle.sqlite.specs.Held.{state}
use Rattle.cad_tables.specs.Faults.{is_name_taken as is_taken}
use Rattle.cad_tables.proofs.OpeningLemmas.{prepare_reads, exists_found, taken_told}
use Rattle.cad_tables.proofs.making.is_in_use.Goals as goal

pub returns-then-is_name_taken-clause-known : goal.returns-then-is_name_taken-clause-known
returns-then-is_name_taken-clause-known g c clean =
    let taken : is_taken c.in-Err.error ≡ true = search rules in
    exists_found (state g.S.Store c.args.conn.now) (state g.S.Store c.prepare.new.self) c.args.sql.now c.in-Err.error (c.in-Err.ensures.err clean []) taken

pub returns-then-is_name_taken-clause-reads : goal.returns-then-is_name_taken-clause-reads
returns-then-is_name_taken-clause-reads g c =
    let taken : is_taken c.in-Err.error ≡ true = search rules in
    prepare_reads c.args.sql.now (state g.S.Store c.args.conn.now) (state g.S.Store c.prepare.new.self) _ c.in-Err.error (λ clean. c.in-Err.ensures.err clean []) (λ ok. taken_told _ taken) c.prepare.ensures.mode c.prepare.ensures.survives

pub returns-else-is_name_taken-clause-reads : goal.returns-else-is_name_taken-clause-reads
returns-else-is_name_taken-clause-reads g c =
    prepare_reads c.args.sql.now (state g.S.Store c.args.conn.now) (state g.S.Store c.prepare.new.self) _ c.in-Err.error (λ clean. c.in-Err.ensures.err clean []) (λ ok. absurd (cc ok)) c.prepare.ensures.mode c.prepare.ensures.survives
