-- The features at a revision, by the rows that are lent (own profile).
use Rattle.std.specs.Prelude.{◌≤◌, List, Option, Some, None}
use Rattle.std.specs.List.{AllByRecursion}
use Rattle.cad_feature.specs.Features.{Item, AreFeaturesOf}
use Rattle.cad_index.specs.Layers.{LayerFeatures}
use Rattle.cad_layer.specs.Walks.{all_in}
use Rattle.cad_history.specs.declared.moment.Past.{Past}
use Rattle.cad_history.specs.Rows.{AllComeBefore, Rows, earlier_at, row_count, rows_at}

-- all newest rows, or those that have their values at a revision, with the earlier ones that have theirs
abbrev pub features_lent : List Item → Option Past → List Item
features_lent newest None = newest
features_lent newest (Some past) = all_in (earlier_at past.revision past.earlier.now) (rows_at past.revision newest)

abbrev pub rows_of : LayerFeatures → List LayerFeatures → Rows
rows_of newest earlier = record { collection = newest.collection; newest = newest.features; earlier = earlier; last = 0 }

-- the rows are features of one collection; what a version has in one list ends before what it has in a later one
pub record AreInTurn (newest : LayerFeatures) (earlier : List LayerFeatures) : Type 0 where
  pub each : AllByRecursion (λ (layer : LayerFeatures). AreFeaturesOf newest.collection layer.features) earlier
  pub in_turn : AllComeBefore earlier newest.features
  pub few : row_count (rows_of newest earlier) ≤ 18446744073709551615

abbrev pub AreLent : LayerFeatures → Option Past → Type 0
AreLent newest None = Unit {0}
AreLent newest (Some past) = AreInTurn newest past.earlier.now
