-- A row of the table as an entry of the register (own profile).
use Rattle.std.specs.Prelude.{◌≡◌, ◌<◌, ◌^◌, ℕ, pos, List, [], ◌∷◌, map, option_map}
use Rattle.std.specs.Option.{ForSome}
use Rattle.sqlite_value.specs.declared.value.Value.TheVariants.{Int}
use Rattle.sqlite_value.specs.Order.{Row, column}
use Rattle.sqlite_typed.specs.Columns.{or_null}
use Rattle.sqlite.specs.Effect.{Database}
use Rattle.cad_day.specs.Days.{number_of}
use Rattle.cad_tables.specs.VersionRow.{VersionRow, cells_of}
use Rattle.cad_tables.specs.Holding.{Holds}
use Rattle.cad_versions.specs.Objects.{object_number}
use Rattle.cad_versions.specs.Class.{class_of, class_number}
use Rattle.cad_versions.specs.VersionedObject.{IsVersion}
use Rattle.cad_versions.specs.Entries.{Entry}
use Rattle.cad_register.specs.declared.stored_version.StoredVersion.{StoredVersion}
use Rattle.cad_versions.specs.BodyParts.{parts_of}
use Rattle.cad_register.specs.Parts.{HasParts}

-- the row represents the entry: it has it in its nineteen columns, and the entry is one that a register may hold
pub record IsRowOf (row : Row) (e : Entry) : Type 0 where
  pub object : column row 0 ≡ Int (pos (object_number e.version.object))
  pub number : column row 1 ≡ Int (pos e.version.number)
  pub class : column row 2 ≡ Int (pos (class_number (class_of e.version.body)))
  pub first : column row 3 ≡ Int (number_of e.version.first)
  pub last : column row 4 ≡ or_null Int (option_map number_of e.version.last)
  pub entered : (column row 5 ≡ Int (pos e.entered)) × (e.entered < 2 ^ 32)
  pub closed : (column row 6 ≡ or_null (λ n. Int (pos n)) e.closed) × ForSome e.closed (λ n. n < 2 ^ 32)
  pub parts : HasParts row (parts_of e.version.body)
  pub version : IsVersion e.version

abbrev pub entry_of : StoredVersion → Entry
entry_of kept = record { version = kept.version; entered = kept.entered; closed = kept.closed }

-- each row represents the entry in its place
abbrev pub AreRowsOf : List Row → List Entry → Type 0
AreRowsOf [] [] = Unit {0}
AreRowsOf (row ∷ rows) (e ∷ es) = IsRowOf row e × AreRowsOf rows es
AreRowsOf rows es = ⊥

-- the two tables hold this revision, and rows that represent these entries, the oldest first
pub record HoldsEntries (revision : ℕ) (entries : List Entry) (db : Database) : Type 0 where
  pub lines : List VersionRow
  pub holds : Holds revision lines db
  pub rows : AreRowsOf (map cells_of lines) entries
