use Rattle.std.proofs.Common.{◌≡◌, ◌-◌, ◌∙◌, Ok, ap₂, subst, map, take, drop}
use Rattle.sqlite.specs.Held.{state}
use Rattle.cad_versions.specs.Entries.{entries_of}
use Rattle.cad_register.specs.JournalReading.{rows_read, next_place, HasNoted}
use Rattle.cad_register.specs.StoredVersions.{entry_of}
use Rattle.cad_register.proofs.JournalReadingLemmas.{read_given}
use Rattle.cad_register.proofs.KeepingLemmas.{keeps_asked}
use Rattle.cad_register.proofs.LeavingLemmas.{asks_as}
use Rattle.cad_register.proofs.register.Register.read_on.Goals as goal

pub returns-clause-given : goal.returns-clause-given
returns-clause-given g c clean cs register has =
    let before = c.args.reading.now in
    let after = c.note.new.self in
    let place = c.next_place-place.ensures in
    let read = c.place.ensures in
    let entries = map entry_of c.in_ok-versions.versions.items in
    let told = c.in_ok-versions.ensures.told clean cs register.stands in
    let are : entries ≡ take (next_place c.args.most before - rows_read before) (drop (rows_read before) (entries_of cs)) = told.0 ∙ ap₂ (λ u b. take (u - b) (drop b (entries_of cs))) place read in
    read_given cs c.args.most before after entries has are (subst (λ p. HasNoted entries p before after) place c.note.ensures)

pub returns-clause-keeps : goal.returns-clause-keeps
returns-clause-keeps g c =
    let settled = g.met.S.Store.settled c.args.self.now.connection.store in
    keeps_asked g.S.Store c.args.self.now c.versions_between.new.connection (Ok c.is_whole.result) settled
    (asks_as (state g.S.Store c.args.self.now.connection) (state g.S.Store c.versions_between.new.connection) (Ok c.in_ok-versions.versions) (Ok c.is_whole.result) (λ _. tt) c.in_ok-versions.ensures.leaves)
