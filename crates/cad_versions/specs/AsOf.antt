-- The register at a revision (ISO 19152:2012, VersionedObject; own profile: revisions).
use Rattle.std.specs.Prelude.{ℕ, List, map, take}
use Rattle.std.specs.declared.cmp.Ordering.{Ordering}
use Rattle.cad_versions.specs.declared.command.Command.{Command}
use Rattle.cad_versions.specs.VersionedObject.{VersionedObject}
use Rattle.cad_versions.specs.Versions.{versions}
use Rattle.cad_versions.specs.Entries.{Entry, version_in, entries_of, entries_at, seen_at}
use Rattle.cad_versions.specs.Sorting.{sort_by}
use Rattle.cad_versions.specs.Identifiers.{by_identifier}

-- what the first commands made, in the order of identifiers
abbrev pub as_of : ℕ → List Command → List VersionedObject
as_of revision commands = sort_by by_identifier (versions (take revision commands))

-- by the identifiers of their versions
abbrev pub entry_order : Entry → Entry → Ordering
entry_order a b = by_identifier (version_in a) (version_in b)

-- the entries that a revision lists, in the order of identifiers
abbrev pub entries_listed : ℕ → List Entry → List Entry
entries_listed revision entries = sort_by entry_order (entries_at revision entries)

-- all entries that the commands make, in the order of identifiers
abbrev pub all_entries : List Command → List Entry
all_entries commands = sort_by entry_order (entries_of commands)

-- the versions of the entries as they were at a revision
abbrev pub versions_at : ℕ → List Entry → List VersionedObject
versions_at revision entries = map (seen_at revision) (entries_at revision entries)
