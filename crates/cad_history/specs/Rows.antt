-- The features of a collection at every revision, as rows with periods (SQL:2011, 4.15.7: system-versioned tables; revisions: own profile).
use Rattle.std.specs.Prelude.{◌≡◌, ℕ, ◌+◌, ◌<◌, ◌≤◌, Bool, true, List, [], ◌∷◌, length, map}
use Rattle.std.specs.List.{AllByRecursion}
use Rattle.std.specs.List.Sorted.{IsStrictlySortedBy}
use Rattle.std.specs.Ordering.{is_eq}
use Rattle.cad_schema.specs.declared.collection.Collection.{Collection}
use Rattle.cad_feature.specs.Features.{Item, by_identifier, AreFeaturesOf}
use Rattle.cad_feature.specs.Periods.{always}
use Rattle.cad_index.specs.Layers.{LayerFeatures}
pub use Rattle.cad_index.specs.Moments.{is_shown_at, rows_at}
use Rattle.cad_layer.specs.Walks.{all_in}

-- the newest row of each version, earlier rows in lists of which each has at most one row of a version, and the last revision that changed them
pub record Rows : Type 0 where
  pub collection : Collection
  pub newest : List Item
  pub earlier : List LayerFeatures
  pub last : ℕ

-- these rows, and no earlier ones; no revision has changed them
abbrev pub newest_alone : Collection → List Item → Rows
newest_alone collection xs = record { collection = collection; newest = xs; earlier = []; last = 0 }

-- ---- at a revision

abbrev pub earlier_at : ℕ → List LayerFeatures → List Item
earlier_at revision [] = []
earlier_at revision (layer ∷ layers) = all_in (rows_at revision layer.features) (earlier_at revision layers)

-- the features at the revision
abbrev pub features_at : ℕ → Rows → List Item
features_at revision rows = all_in (earlier_at revision rows.earlier) (rows_at revision rows.newest)

-- a feature without its period
abbrev pub bare : Item → Item
bare x = record { object = x.object; number = x.number; values = x.values; period = always }

-- the features at the revision without their periods
abbrev pub shown_at : ℕ → Rows → List Item
shown_at revision rows = map bare (features_at revision rows)

-- ---- which rows there are

abbrev pub AllAscend : List LayerFeatures → Type 0
AllAscend = AllByRecursion (λ (layer : LayerFeatures). IsStrictlySortedBy by_identifier layer.features)

-- the period has begun, and has no end yet
pub record IsOpenRow (last : ℕ) (x : Item) : Type 0 where
  pub begun : x.period.start ≤ last
  pub endless : x.period.end ≡ 4294967295

-- the period has ended
abbrev pub IsEndedRow : ℕ → Item → Type 0
IsEndedRow last x = x.period.end ≤ last

-- both are rows of one version
abbrev pub is_version : Item → Item → Bool
is_version x y = is_eq (by_identifier x y)

-- if they are, the first ends before the second begins
abbrev pub EndsFirst : Item → Item → Type 0
EndsFirst x y = is_version x y ≡ true → x.period.end ≤ y.period.start

abbrev pub ComeBefore : List Item → List Item → Type 0
ComeBefore xs ys = AllByRecursion (λ y. AllByRecursion (λ x. EndsFirst x y) xs) ys

abbrev pub AllComeBefore : List LayerFeatures → List Item → Type 0
AllComeBefore [] newest = Unit {0}
AllComeBefore (layer ∷ layers) newest =
    ComeBefore layer.features newest × AllByRecursion (λ (later : LayerFeatures). ComeBefore layer.features later.features) layers × AllComeBefore layers newest

-- how many rows the lists have
abbrev pub earlier_count : List LayerFeatures → ℕ
earlier_count [] = 0
earlier_count (layer ∷ layers) = length layer.features + earlier_count layers

-- how many rows there are
abbrev pub row_count : Rows → ℕ
row_count rows = earlier_count rows.earlier + length rows.newest

pub record AreRows (rows : Rows) : Type 0 where
  pub listed : AreFeaturesOf rows.collection rows.newest
  pub alike : AllByRecursion (λ (layer : LayerFeatures). layer.collection ≡ rows.collection) rows.earlier
  pub each : AllByRecursion (λ (layer : LayerFeatures). AreFeaturesOf rows.collection layer.features) rows.earlier
  pub newest_open : AllByRecursion (IsOpenRow rows.last) rows.newest
  pub earlier_ended : AllByRecursion (λ (layer : LayerFeatures). AllByRecursion (IsEndedRow rows.last) layer.features) rows.earlier
  pub in_turn : AllComeBefore rows.earlier rows.newest
  pub few : row_count rows ≤ 18446744073709551615

-- ---- after a revision

-- the rows after this revision gave the collection these features: before it they show what the old ones show, and from it on the newest
-- of the old ones with these features
pub record AreNext (revision : ℕ) (touched : List Item) (old new : Rows) : Type 0 where
  pub collection : new.collection ≡ old.collection
  pub last : new.last ≡ revision
  pub before : (r : ℕ) → r < revision → shown_at r new ≡ shown_at r old
  pub after : (r : ℕ) → revision ≤ r → r < 4294967295 → shown_at r new ≡ all_in (map bare old.newest) (map bare touched)
