use Rattle.std.proofs.Common.{◌≡◌, ◌-◌, [], ◌∷◌, pos, length, map, take, drop, sym, subst, ◌∙◌}
use Rattle.std.specs.List.{AllByRecursion}
use Rattle.sqlite_value.specs.declared.value.Value.TheVariants.{Int}
use Rattle.sqlite.specs.Held.{state}
use Rattle.cad_tables.specs.Listing.{lines_between}
use Rattle.cad_tables.specs.Texts.{range_text}
use Rattle.cad_tables.specs.VersionRow.{cells_of}
use Rattle.cad_tables.specs.lemmas.SettledLemmas.{settled_by}
use Rattle.cad_versions.specs.declared.fault.RegisterFault.TheVariants as fault
use Rattle.cad_versions.specs.Entries.{entries_of}
use Rattle.cad_register.specs.Damage.{HasRevisions}
use Rattle.cad_register.specs.StoredVersions.{AreRowsOf}
use Rattle.cad_register.proofs.LeavingLemmas.{on_ok_anyway, asks_answered, asks_refused, store_reading}
use Rattle.cad_register.proofs.RefusingLemmas.{question_stored}
use Rattle.cad_register.proofs.RevisionLemmas.{revisions}
use Rattle.cad_register.proofs.SoundRowLemmas.{rows_between, all_between, sound_told, sound_read, store_sound, unsound_cause}
use Rattle.cad_register.proofs.StandLemmas.{stands_kept, stands_same}
use Rattle.cad_register.proofs.asking.versions_between.Goals as goal

pub returns-in-Ok-clause-told : goal.returns-in-Ok-clause-told
returns-in-Ok-clause-told g c clean cs stands =
    let read = c.in-Ok.ensures.rows in
    let new = state g.S.Store c.listing_between.new.conn in
    let b = c.args.behind in
    let u = c.args.up_to in
    let lines = stands.holds.lines in
    let es = take (u - b) (drop b (entries_of cs)) in
    let are : read.0 ≡ map cells_of (lines_between b u lines) = (read.1 clean).1 (length cs) lines stands.holds.holds in
    sound_told c.args.newest cs read.0 es new c.sound_versions.result
    (subst (λ l. AreRowsOf l es) (sym are) (rows_between b u lines (entries_of cs) stands.holds.rows))
    (λ e. subst (λ n. AllByRecursion (HasRevisions n) es) (sym e) (all_between (HasRevisions (length cs)) b (u - b) (entries_of cs) (revisions cs)))
    (stands_same (state g.S.Store c.args.connection.now) new cs (c.in-Ok.ensures.reads.same clean) stands)
    (c.sound_versions.ensures.sound read.0 read.2) (c.sound_versions.ensures.cause read.0 read.2)

pub returns-in-Err-clause-told : goal.returns-in-Err-clause-told
returns-in-Err-clause-told g c clean cs stands = (
  λ _. c.store_fault.ensures.cause,
  λ live. stands_kept (state g.S.Store c.args.connection.now) (state g.S.Store c.listing_between.new.conn) cs (c.in-Err.ensures.reads.kept clean live stands.settled) live stands,
)

pub returns-in-Err-clause-store : goal.returns-in-Err-clause-store
returns-in-Err-clause-store g c clean e =
    let is : c.store_fault.result ≡ fault.Store = cc in
    question_stored range_text (Int (pos c.args.behind) ∷ Int (pos c.args.up_to) ∷ []) (state g.S.Store c.args.connection.now) (state g.S.Store c.listing_between.new.conn) c.in-Err.fault (sym c.store_fault.ensures.told ∙ is) (c.in-Err.ensures.refused clean)

pub returns-in-Ok-clause-still : goal.returns-in-Ok-clause-still
returns-in-Ok-clause-still g c clean =
    on_ok_anyway c.sound_versions.result (settled_by g.S.Store c.args.connection.now c.listing_between.new.conn _ (c.in-Ok.ensures.reads.same clean) c.in-Ok.ensures.reads.survives)

pub returns-in-Ok-clause-leaves : goal.returns-in-Ok-clause-leaves
returns-in-Ok-clause-leaves g c = asks_answered (state g.S.Store c.args.connection.now) (state g.S.Store c.listing_between.new.conn) _ _ c.in-Ok.ensures.reads

pub returns-in-Err-clause-leaves : goal.returns-in-Err-clause-leaves
returns-in-Err-clause-leaves g c = asks_refused (state g.S.Store c.args.connection.now) (state g.S.Store c.listing_between.new.conn) _ c.store_fault.result c.store_fault.ensures.cause c.in-Err.ensures.reads

pub returns-in-Ok-clause-cause : goal.returns-in-Ok-clause-cause
returns-in-Ok-clause-cause g c = unsound_cause c.args.newest c.in-Ok.ensures.rows.0 c.sound_versions.result (c.sound_versions.ensures.cause c.in-Ok.ensures.rows.0 c.in-Ok.ensures.rows.2)

pub returns-in-Err-clause-cause : goal.returns-in-Err-clause-cause
returns-in-Err-clause-cause g c = store_reading c.store_fault.result c.store_fault.ensures.cause

pub returns-in-Ok-clause-read : goal.returns-in-Ok-clause-read
returns-in-Ok-clause-read g c =
    let read = c.in-Ok.ensures.rows in
    sound_read (state g.S.Store c.args.connection.now) (state g.S.Store c.listing_between.new.conn) c.args.behind c.args.up_to c.args.newest read.0 c.sound_versions.result (λ clean. (read.1 clean).0) (c.sound_versions.ensures.sound read.0 read.2) (c.sound_versions.ensures.cause read.0 read.2)

pub returns-in-Err-clause-read : goal.returns-in-Err-clause-read
returns-in-Err-clause-read g c = store_sound (state g.S.Store c.args.connection.now) (state g.S.Store c.listing_between.new.conn) c.args.behind c.args.up_to c.args.newest c.store_fault.result c.store_fault.ensures.cause
