use Rattle.std.proofs.Common.{◌≡◌, ◌-◌, ◌++◌, refl, sym, subst, map}
use Rattle.cad_register.specs.Journal.{commands_behind}
use Rattle.cad_register.specs.inner.Gathering.{slots_of}
use Rattle.cad_register.specs.StoredVersions.{entry_of}
use Rattle.cad_register.proofs.journal_reading.JournalReading.note.Goals as goal

pub returns : goal.returns
returns c =
    let old = c.args.self.now in
    let noted = c.note_all.ensures in
    record {
      behind_is = noted.behind;
      newest_is = refl;
      rows_are = refl;
      holds = λ earlier held.
          subst (λ b. slots_of c.note_all.new.gathering.slots ≡ commands_behind b (old.newest - b) (earlier ++ map entry_of c.args.versions.items)) (sym noted.behind)
          (noted.notes old.gathering.behind (old.newest - old.gathering.behind) earlier (record { behind_is = refl; commands_are = held })).commands_are;
    }
