-- What holds of every register (ISO 19152:2012, VersionedObject).
use Rattle.std.specs.Prelude.{◌≡◌, ℕ, ◌≤◌, List, [], ◌++◌, length, map}
use Rattle.cad_shape.specs.declared.polygon.Region.{Region}
use Rattle.cad_versions.specs.declared.object_id.ObjectId.{ObjectId}
use Rattle.cad_versions.specs.declared.command.Command.{Command}
use Rattle.cad_versions.specs.Versions.{history, versions}
use Rattle.cad_versions.specs.Refusals.{AreAccepted}
use Rattle.cad_versions.specs.Histories.{IsHistory, last_day, retired_on}
use Rattle.cad_versions.specs.Entries.{entries_of, seen_at}
use Rattle.cad_versions.specs.AsOf.{as_of, entries_listed}
use Rattle.cad_versions.specs.ShapeBytes.{IsShapeOf}

abbrev pub VersionsAreHistories : Type 0
VersionsAreHistories = (commands : List Command) → AreAccepted [] commands → (object : ObjectId) → IsHistory 1 (history object (versions commands))

abbrev pub ObjectsEndWhenRetired : Type 0
ObjectsEndWhenRetired = (commands : List Command) → AreAccepted [] commands → (object : ObjectId) → last_day (history object (versions commands)) ≡ retired_on object commands

abbrev pub RevisionsStay : Type 0
RevisionsStay = (commands later : List Command) (revision : ℕ) → revision ≤ length commands → as_of revision (commands ++ later) ≡ as_of revision commands

abbrev pub RevisionsAreSeen : Type 0
RevisionsAreSeen = (commands : List Command) (revision : ℕ) → revision ≤ length commands
    → map (seen_at revision) (entries_listed revision (entries_of commands)) ≡ as_of revision commands

abbrev pub BytesAreOfOneShape : Type 0
BytesAreOfOneShape = (bytes : List ℕ) (one other : Region) → IsShapeOf bytes one → IsShapeOf bytes other → one ≡ other
