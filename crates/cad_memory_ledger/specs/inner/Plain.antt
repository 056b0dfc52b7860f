-- What the kept versions of a ledger are like.
use Rattle.std.specs.Prelude.{◌≤◌, List, length, map}
use Rattle.std.specs.List.{IsDistinct}
use Rattle.std.specs.Ordering.{eq_by_cmp}
use Rattle.cad_versions.specs.VersionedObject.{VersionedObject}
use Rattle.cad_versions.specs.Refusals.{most_versions}
use Rattle.cad_versions.specs.lemmas.HistoryLemmas.{HasHistories}
use Rattle.cad_versions.specs.Entries.{Entry, version_in}
use Rattle.cad_versions.specs.Identifiers.{by_identifier}

-- ISO 19152:2012, VersionedObject: the versions of each object follow one another; there are no more than allowed (own profile)
pub record AreHistories (entries : List Entry) : Type 0 where
  pub histories : HasHistories (map version_in entries)
  pub few : length entries ≤ most_versions

-- no two have one identifier
abbrev pub AreApart : List VersionedObject → Type 0
AreApart = IsDistinct (eq_by_cmp by_identifier)
