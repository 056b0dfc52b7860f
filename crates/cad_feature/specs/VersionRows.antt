-- The rows of a version: its feature with each of the values that it had, and the revisions at which it had them (SQL:2011, 4.15.7: system-versioned tables; revisions: own profile).
use Rattle.std.specs.Prelude.{◌≡◌, ℕ, ◌≤◌, ◌<◌, true, List, [], ◌∷◌}
use Rattle.std.specs.List.{AllByRecursion}
use Rattle.cad_versions.specs.Entries.{Entry, version_in}
use Rattle.cad_schema.specs.declared.collection.Collection.{Collection}
use Rattle.cad_feature.specs.Features.{Item, IsFeatureOf}
use Rattle.cad_feature.specs.FeaturesThen.{feature_at}
use Rattle.cad_feature.specs.Periods.{is_within}

-- the row is the version of the entry as a feature, with the values that it has at each revision of the row's period, up to the newest one
pub record IsRowOf (newest : ℕ) (entries : List Entry) (collection : Collection) (entry : Entry) (row : Item) : Type 0 where
  pub object : row.object ≡ (version_in entry).object
  pub number : row.number ≡ (version_in entry).number
  pub fits : IsFeatureOf collection row
  pub values : (revision : ℕ) → is_within row.period revision ≡ true → revision ≤ newest → row.values ≡ (feature_at entries collection entry revision).values

-- their periods follow one another from one revision up to another
abbrev pub RunOn : ℕ → ℕ → List Item → Type 0
RunOn start end [] = start ≡ end
RunOn start end (row ∷ rows) = (row.period.start ≡ start) × (start < row.period.end) × RunOn row.period.end end rows

-- the rows of the version of the entry, the oldest first, and the newest one by itself: from the revision that entered it on, one at each revision
pub record AreRowsOfVersion (newest : ℕ) (entries : List Entry) (collection : Collection) (entry : Entry) (earlier : List Item) (row : Item) : Type 0 where
  pub each : AllByRecursion (IsRowOf newest entries collection entry) earlier
  pub last : IsRowOf newest entries collection entry row
  pub run : RunOn entry.entered row.period.start earlier
  pub begun : row.period.start ≤ newest
  pub endless : row.period.end ≡ 4294967295
