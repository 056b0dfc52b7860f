-- The features of which the rows of one revision's versions are built (own profile).
use Rattle.std.specs.Prelude.{◌≡◌, ◌≤◌, List, length}
use Rattle.cad_versions.specs.VersionedObject.{VersionedObject}
use Rattle.cad_schema.specs.declared.collection.Collection.{Collection}
use Rattle.cad_feature.specs.Features.{Item}
use Rattle.cad_feature.specs.Flatten.{features_in}
use Rattle.cad_history.specs.Rows.{AreRows, newest_alone}

-- the features of the collection among these versions, as rows whose positions have 32 bits
pub record AreAllFeatures (versions : List VersionedObject) (collection : Collection) (xs : List Item) : Type 0 where
  pub all : xs ≡ features_in versions collection
  pub rows : AreRows (newest_alone collection xs)
  pub few : length xs ≤ 4294967295
