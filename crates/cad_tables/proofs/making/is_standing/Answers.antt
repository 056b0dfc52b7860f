use Rattle.std.proofs.Common.{◌≡◌, ◌∙◌, inl, inr, true, false, codes, rules, sym, ap}
use Rattle.sqlite.specs.Effect.{Database}
use Rattle.sqlite_catalog.specs.Change.{is_used}
use Rattle.cad_tables.specs.Tables.{state_table, version_made}
use Rattle.cad_tables.specs.Texts.{state_text, version_text}
use Rattle.cad_tables.proofs.NameLemmas.{state_makes, version_makes}
use Rattle.cad_tables.proofs.StandingLemmas.{found_used, standing_first, standing_second}
use Rattle.cad_tables.proofs.RefusalLemmas.{told}
use Rattle.cad_tables.specs.lemmas.SettledLemmas.{settled_by}
use Rattle.cad_tables.proofs.making.is_standing.Goals as goal

pub returns-in_err-is_in_use-clause-refused : goal.returns-in_err-is_in_use-clause-refused
returns-in_err-is_in_use-clause-refused g c clean =
    let no = c.in_err-is_in_use.ensures.refused clean in
    told _ c.from_residual.result c.in_err-is_in_use.field-0.0 c.from_residual.ensures.1 (no.0, inl (rw c.state_table.ensures at no.1))

pub returns-then-branch-clause-known : goal.returns-then-branch-clause-known
returns-then-branch-clause-known g c clean =
    let schema = c.args.conn.now.schema in
    let used : c.in_ok-is_in_use.field-0 ≡ true = search rules in
    let found = found_used schema state_text state_table state_makes _ (rw c.state_table.ensures at (c.in_ok-is_in_use.ensures.known clean)) in
    sym (standing_first schema (sym found ∙ used))

pub returns-in_err-used-clause-refused : goal.returns-in_err-used-clause-refused
returns-in_err-used-clause-refused g c clean =
    let early = c.is_in_use-2.ensures.reads.clean clean in
    let no = c.in_err-used.ensures.refused clean in
    told _ c.from_residual-in_err-used.result c.in_err-used.field-0.0 c.from_residual-in_err-used.ensures.1
    (no.0, inr (c.is_in_use.new.conn, settled_by g.S.Store c.args.conn.now c.is_in_use.new.conn _ (c.in_ok-is_in_use.ensures.reads.same early) c.in_ok-is_in_use.ensures.reads.survives, rw c.version_table.ensures at no.1))

pub returns-clause-known : goal.returns-clause-known
returns-clause-known g c clean =
    let schema = c.args.conn.now.schema in
    let early = c.is_in_use-2.ensures.reads.clean clean in
    let same = (c.in_ok-is_in_use.ensures.reads.same early).0.now_is in
    let free : c.in_ok-is_in_use.field-0 ≡ false = search rules in
    let found = found_used schema state_text state_table state_makes _ (rw c.state_table.ensures at (c.in_ok-is_in_use.ensures.known early)) in
    let second = found_used c.is_in_use.new.conn.schema version_text (version_made 0) version_makes _ (rw c.version_table.ensures at (c.in_ok-used.ensures.known clean)) in
    second ∙ ap (λ (d : Database). is_used d.schema (codes "version")) same ∙ sym (standing_second schema (sym found ∙ free))
