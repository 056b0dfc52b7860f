-- The stored versions of a register, as features at a revision (ISO 19152:2012, VersionedObject; own profile: revisions).
use Rattle.std.specs.Prelude.{ℕ, Bool, List}
use Rattle.cad_versions.specs.AsOf.{versions_at}
use Rattle.cad_versions.specs.Entries.{Entry, version_in, seen_at}
use Rattle.cad_schema.specs.declared.collection.Collection.{Collection}
use Rattle.cad_feature.specs.Features.{Item}
use Rattle.cad_feature.specs.Flatten.{is_in, feature_in}

abbrev pub entry_in : Collection → Entry → Bool
entry_in collection entry = is_in collection (version_in entry)

-- the version of the entry, as a feature at the revision
abbrev pub feature_at : List Entry → Collection → Entry → ℕ → Item
feature_at entries collection entry revision = feature_in (versions_at revision entries) collection (seen_at revision entry)
