-- The rows of a register, at each of its revisions (ISO 19152:2012, VersionedObject; revisions: own profile).
use Rattle.std.specs.Prelude.{◌≡◌, ℕ, ◌≤◌, List, length}
use Rattle.cad_versions.specs.declared.command.Command.{Command}
use Rattle.cad_versions.specs.AsOf.{as_of}
use Rattle.cad_feature.specs.Flatten.{features_in}
use Rattle.cad_history.specs.Rows.{Rows, shown_at}

-- at each revision they show the features of the collection that the commands up to it made
pub record AreRowsOf (commands : List Command) (rows : Rows) : Type 0 where
  pub last : rows.last ≤ length commands
  pub each : (revision : ℕ) → revision ≤ length commands → shown_at revision rows ≡ features_in (as_of revision commands) rows.collection
