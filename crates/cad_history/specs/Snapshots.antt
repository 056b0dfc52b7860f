-- The features of a register at one revision (OGC 17-069r4, 7.15: items; revisions: own profile).
use Rattle.std.specs.Prelude.{◌≡◌, ℕ, List, [], map, Option, Some, None}
use Rattle.cad_versions.specs.VersionedObject.{VersionedObject}
use Rattle.cad_schema.specs.declared.collection.Collection.{Collection}
use Rattle.cad_schema.specs.Collections.{collections}
use Rattle.cad_feature.specs.Features.{Item}
use Rattle.cad_feature.specs.Flatten.{features_in}
use Rattle.cad_history.specs.Histories.{RegisterRows, rows_for}
use Rattle.cad_history.specs.Rows.{bare}
use Rattle.cad_history.specs.Rows.{features_at as rows_shown_at}
use Rattle.cad_history.specs.Tables.{entry_of}

-- the features of each collection after the first commands of a register, in the order of the collections
pub record RevisionFeatures : Type 0 where
  pub revision : ℕ
  pub each : List (List Item)

abbrev pub features_at : RevisionFeatures → Collection → List Item
features_at s = entry_of [] s.each

-- the same, with the features that are given for each collection
abbrev pub with_features : ℕ → (Collection → List Item) → RevisionFeatures
with_features revision given = record { revision = revision; each = map given collections }

-- the same without periods
abbrev pub bared : RevisionFeatures → RevisionFeatures
bared s = with_features s.revision (λ collection. map bare (features_at s collection))

-- the features of a collection by the rows of all: its newest rows, or those that have their values at the revision
abbrev pub moment_features : Option ℕ → RegisterRows → Collection → List Item
moment_features None rows collection = (rows_for rows collection).newest
moment_features (Some revision) rows collection = rows_shown_at revision (rows_for rows collection)

-- it holds the features of these versions, which are those at the revision; the periods of their rows are not compared, since no body shows them
pub record IsSnapshotOf (revision : ℕ) (versions : List VersionedObject) (s : RevisionFeatures) : Type 0 where
  pub of_revision : s.revision ≡ revision
  pub features : (collection : Collection) → map bare (features_at s collection) ≡ features_in versions collection
