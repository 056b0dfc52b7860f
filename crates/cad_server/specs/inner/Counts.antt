-- How many features there are of each collection (own profile).
use Rattle.std.specs.Prelude.{◌≡◌, List, length, map}
use Rattle.cad_versions.specs.VersionedObject.{VersionedObject}
use Rattle.cad_schema.specs.Collections.{collections}
use Rattle.cad_feature.specs.Flatten.{features_in}
use Rattle.cad_stream.specs.declared.summary.VersionCounts.{VersionCounts}

-- so many of these versions
abbrev pub AreCountsOf : List VersionedObject → VersionCounts → Type 0
AreCountsOf versions counts = counts.of_each ≡ map (λ collection. length (features_in versions collection)) collections
