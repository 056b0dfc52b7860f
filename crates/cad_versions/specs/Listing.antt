-- What holds of every list of versions that a ledger shows.
use Rattle.std.specs.Prelude.{◌≤◌, List, length}
use Rattle.std.specs.List.{All}
use Rattle.std.specs.List.Sorted.{IsStrictlySortedBy}
use Rattle.cad_versions.specs.VersionedObject.{VersionedObject, IsVersion}
use Rattle.cad_versions.specs.Identifiers.{by_identifier}
use Rattle.cad_versions.specs.Refusals.{most_versions}

-- ISO 19152:2012, VersionedObject: each is a version, no two have the same object and number, and they ascend by both; at most 2,147,483,647 (own profile)
pub record IsListing (vs : List VersionedObject) : Type 0 where
  pub ascending : IsStrictlySortedBy by_identifier vs
  pub few : length vs ≤ most_versions
  pub each : All IsVersion vs
