use Rattle.std.proofs.Common.{◌≡◌, ◌∙◌, length, sym, subst}
use Rattle.sqlite.specs.Held.{state}
use Rattle.cad_versions.specs.declared.fault.RegisterFault.TheVariants as fault
use Rattle.cad_versions.specs.Entries.{entries_of}
use Rattle.cad_versions.specs.lemmas.HistoryLemmas.{histories}
use Rattle.cad_versions.specs.AsOf.{entries_listed}
use Rattle.cad_register.specs.StoredVersions.{AreRowsOf}
use Rattle.cad_register.proofs.OrderLemmas.{listing_untied}
use Rattle.cad_register.proofs.OrderedLemmas.{lines_in_order}
use Rattle.cad_register.proofs.RowLemmas.{rows_listed}
use Rattle.cad_register.proofs.StandLemmas.{stands_kept, stands_same, listing_told}
use Rattle.cad_tables.specs.lemmas.SettledLemmas.{settled_by}
use Rattle.cad_register.proofs.RefusingLemmas.{rows_refused, rows_stored}
use Rattle.cad_register.proofs.LeavingLemmas.{not_answered, asks_answered, asks_refused, store_reading, rows_reading, rows_read, store_reads}
use Rattle.cad_register.proofs.asking.versions_of.Goals as goal

pub returns-in-Ok-clause-told : goal.returns-in-Ok-clause-told
returns-in-Ok-clause-told g c clean cs stands =
    let all = histories cs stands.accepted in
    let lines = stands.holds.lines in
    let stored = stands.holds.rows in
    let revision = c.args.revision in
    let read = c.in-Ok.ensures.rows in
    let new = state g.S.Store c.listing.new.conn in
    listing_told revision c.args.newest cs read.0 new c.listed.result
    (λ rows order. subst (λ l. AreRowsOf l (entries_listed revision (entries_of cs))) (sym (lines_in_order revision lines read.0 rows (listing_untied revision lines cs stored all) ((read.1 clean).1 (length cs) lines stands.holds.holds) order)) (rows_listed revision lines (entries_of cs) stored))
    (stands_same (state g.S.Store c.args.connection.now) new cs (c.in-Ok.ensures.reads.same clean) stands) (c.listed.ensures.judged read.0 read.2)

pub returns-in-Ok-clause-listed : goal.returns-in-Ok-clause-listed
returns-in-Ok-clause-listed g c = c.listed.ensures.listed c.in-Ok.ensures.rows.0 c.in-Ok.ensures.rows.2

pub returns-in-Err-clause-asked : goal.returns-in-Err-clause-asked
returns-in-Err-clause-asked g c clean cs stands e =
    rows_refused g.S.Store c.args.connection.now c.listing.new.conn c.args.revision c.in-Err.fault stands.live (sym c.store_fault.ensures.told ∙ e) (c.in-Err.ensures.refused clean)

pub returns-in-Err-clause-store : goal.returns-in-Err-clause-store
returns-in-Err-clause-store g c clean e =
    let is : c.store_fault.result ≡ fault.Store = cc in
    rows_stored (state g.S.Store c.args.connection.now) (state g.S.Store c.listing.new.conn) c.args.revision c.in-Err.fault (sym c.store_fault.ensures.told ∙ is) (c.in-Err.ensures.refused clean)

pub returns-in-Ok-clause-still : goal.returns-in-Ok-clause-still
returns-in-Ok-clause-still g c clean answered =
    settled_by g.S.Store c.args.connection.now c.listing.new.conn _ (c.in-Ok.ensures.reads.same clean) c.in-Ok.ensures.reads.survives

pub returns-in-Err-clause-still : goal.returns-in-Err-clause-still
returns-in-Err-clause-still g c clean answered = absurd (not_answered c.store_fault.result c.store_fault.ensures.cause answered)

pub returns-in-Err-clause-told : goal.returns-in-Err-clause-told
returns-in-Err-clause-told g c clean cs stands = (
  λ _. c.store_fault.ensures.cause,
  λ live. stands_kept (state g.S.Store c.args.connection.now) (state g.S.Store c.listing.new.conn) cs (c.in-Err.ensures.reads.kept clean live stands.settled) live stands,
)

pub returns-in-Ok-clause-leaves : goal.returns-in-Ok-clause-leaves
returns-in-Ok-clause-leaves g c = asks_answered (state g.S.Store c.args.connection.now) (state g.S.Store c.listing.new.conn) _ _ c.in-Ok.ensures.reads

pub returns-in-Err-clause-leaves : goal.returns-in-Err-clause-leaves
returns-in-Err-clause-leaves g c = asks_refused (state g.S.Store c.args.connection.now) (state g.S.Store c.listing.new.conn) _ c.store_fault.result c.store_fault.ensures.cause c.in-Err.ensures.reads

pub returns-in-Ok-clause-cause : goal.returns-in-Ok-clause-cause
returns-in-Ok-clause-cause g c = rows_reading c.args.revision c.args.newest c.in-Ok.ensures.rows.0 c.listed.result (c.listed.ensures.judged c.in-Ok.ensures.rows.0 c.in-Ok.ensures.rows.2)

pub returns-in-Err-clause-cause : goal.returns-in-Err-clause-cause
returns-in-Err-clause-cause g c = store_reading c.store_fault.result c.store_fault.ensures.cause

pub returns-in-Ok-clause-read : goal.returns-in-Ok-clause-read
returns-in-Ok-clause-read g c =
    let read = c.in-Ok.ensures.rows in
    rows_read (state g.S.Store c.args.connection.now) (state g.S.Store c.listing.new.conn) c.args.revision c.args.newest read.0 c.listed.result (λ clean. (read.1 clean).0) (c.listed.ensures.judged read.0 read.2)

pub returns-in-Err-clause-read : goal.returns-in-Err-clause-read
returns-in-Err-clause-read g c = store_reads (state g.S.Store c.args.connection.now) (state g.S.Store c.listing.new.conn) c.args.revision c.args.newest c.store_fault.result c.store_fault.ensures.cause
