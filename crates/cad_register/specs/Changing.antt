-- What a command changes in the tables.
use Rattle.std.specs.Prelude.{◌≡◌, ℕ, pos, ◌-ℤ◌}
use Rattle.cad_day.specs.Days.{number_of}
use Rattle.cad_tables.specs.declared.changes.Change.{Change}
use Rattle.cad_tables.specs.declared.changes.Change.TheVariants as change
use Rattle.cad_versions.specs.declared.command.Command.{Command}
use Rattle.cad_versions.specs.declared.command.Command.TheVariants.{Enter, Amend, Retire}
use Rattle.cad_versions.specs.Objects.{object_number}
use Rattle.cad_versions.specs.VersionedObject.{VersionedObject}
use Rattle.cad_versions.specs.Versions.{begun}
use Rattle.cad_versions.specs.Entries.{entered_at}
use Rattle.cad_tables.specs.VersionRow.{VersionRow, cells_of}
use Rattle.cad_register.specs.Rows.{line_of}
use Rattle.cad_register.specs.StoredVersions.{IsRowOf}
use Rattle.cad_register.specs.declared.writing.NewEntry.{NewEntry}

-- the line of a new entry
abbrev pub line_written : NewEntry → VersionRow
line_written n = line_of (entered_at n.entered n.version)

-- the new entry is of this version and this revision, and the row that is written represents it
abbrev pub IsNew : VersionedObject → ℕ → NewEntry → Type 0
IsNew v revision entry = (entry.version ≡ v) × (entry.entered ≡ revision) × IsRowOf (cells_of (line_written entry)) (entered_at revision v)

-- the change writes what the command makes at this revision, if the new version of an existing object has this number
abbrev pub IsChangeOf : Command → ℕ → ℕ → Change NewEntry → Type 0
IsChangeOf (Enter object first body) number revision (change.Enter entry) = IsNew (begun object 1 first body) revision entry
IsChangeOf (Amend object first body) number revision (change.Amend closing entry) =
    (closing.object ≡ object_number object) × (closing.last ≡ number_of first -ℤ pos 1) × IsNew (begun object number first body) revision entry
IsChangeOf (Retire object last) number revision (change.Retire closing) = (closing.object ≡ object_number object) × (closing.last ≡ number_of last)
IsChangeOf command number revision other = ⊥
