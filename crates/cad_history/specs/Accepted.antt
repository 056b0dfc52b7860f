-- What holds of registers of accepted commands (ISO 19152:2012, VersionedObject).
use Rattle.std.specs.Prelude.{ℕ, ◌≤◌, ◌*◌, List, [], length}
use Rattle.cad_versions.specs.declared.command.Command.{Command}
use Rattle.cad_versions.specs.AsOf.{as_of}
use Rattle.cad_versions.specs.Listing.{IsListing}
use Rattle.cad_versions.specs.Refusals.{most_versions, AreAccepted}

-- the versions that the commands made at any revision are a listing: each is a version, and they ascend by identifier
abbrev pub AcceptedAreListed : Type 0
AcceptedAreListed = (commands : List Command) → AreAccepted [] commands → (revision : ℕ) → IsListing (as_of revision commands)

-- each command adds a version or ends one, so there are at most twice as many commands as there may be versions
abbrev pub AcceptedAreFew : Type 0
AcceptedAreFew = (commands : List Command) → AreAccepted [] commands → length commands ≤ 2 * most_versions
