-- What the two tables hold.
use Rattle.std.specs.Prelude.{◌≡◌, ℕ, pos, List, [], ◌∷◌, map}
use Rattle.std.specs.List.{enumerate_from}
use Rattle.sqlite_value.specs.declared.value.Value.TheVariants.{Null, Int}
use Rattle.sqlite_value.specs.Order.{Row}
use Rattle.sqlite.specs.Effect.{Database}
use Rattle.cad_tables.specs.VersionRow.{VersionRow, cells_of}
use Rattle.cad_tables.specs.Tables.{register_schema}

-- SQLite, Rowid Tables: a row under its rowid; no row is ever removed, so the rowids count up from 1
abbrev pub row_of : ℕ × VersionRow → Row
row_of line = Int (pos line.0) ∷ cells_of line.1

abbrev pub rows_of : List VersionRow → List Row
rows_of lines = map row_of (enumerate_from 1 lines)

-- own profile: the one row of `state`, with format 1; a column that is the rowid stores no value of its own
abbrev pub state_row : ℕ → Row
state_row revision = Int (pos 1) ∷ Null ∷ Int (pos 1) ∷ Int (pos revision) ∷ []

-- own profile: the database has only the two tables, with this revision and these lines, the oldest first
pub record Holds (revision : ℕ) (lines : List VersionRow) (db : Database) : Type 0 where
  pub schema : db.schema ≡ register_schema
  pub state : db.trees 0 ≡ state_row revision ∷ []
  pub versions : db.trees 1 ≡ rows_of lines
