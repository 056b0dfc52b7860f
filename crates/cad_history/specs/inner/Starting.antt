-- Rows that a start puts into lists, one version after the other (own profile).
use Rattle.std.specs.Prelude.{◌≡◌, ℕ, zero, suc, pos, int_le, Bool, List, [], ◌∷◌, ◌++◌, map, filter, Vec}
use Rattle.std.specs.Global.{Global}
use Rattle.std.specs.List.{AllByRecursion}
use Rattle.cad_versions.specs.Entries.{Entry}
use Rattle.cad_schema.specs.declared.collection.Collection.{Collection}
use Rattle.cad_feature.specs.Features.{Item, AreFeaturesOf}
use Rattle.cad_feature.specs.FeaturesThen.{entry_in, feature_at}
use Rattle.cad_index.specs.Layers.{LayerFeatures}
use Rattle.cad_history.specs.Rows.{AllComeBefore, IsEndedRow, IsOpenRow, Rows}

abbrev pub items_in : Vec Item Global → List Item
items_in list = list.items

-- the lists with a row at the end of one of them, or with a list of it behind the others
abbrev pub pushed_at : ℕ → Item → List (List Item) → List (List Item)
pushed_at at row [] = (row ∷ []) ∷ []
pushed_at zero row (list ∷ lists) = (list ++ row ∷ []) ∷ lists
pushed_at (suc at) row (list ∷ lists) = list ∷ pushed_at at row lists

-- from a place on each of the rows to the end of one list
abbrev pub pushed_from : ℕ → List Item → List (List Item) → List (List Item)
pushed_from at [] lists = lists
pushed_from at (row ∷ rows) lists = pushed_from (suc at) rows (pushed_at at row lists)

-- the first row to the end of the first list, and so on
abbrev pub pushed : List Item → List (List Item) → List (List Item)
pushed [] lists = lists
pushed (row ∷ rows) [] = (row ∷ []) ∷ pushed rows []
pushed (row ∷ rows) (list ∷ lists) = (list ++ row ∷ []) ∷ pushed rows lists

abbrev pub layer_of : Collection → List Item → LayerFeatures
layer_of collection list = record { collection = collection; features = list }

abbrev pub layers_of : Collection → List (List Item) → List LayerFeatures
layers_of collection lists = map (layer_of collection) lists

abbrev pub rows_of : Collection → ℕ → List Item → List (List Item) → Rows
rows_of collection last newest lists = record { collection = collection; newest = newest; earlier = layers_of collection lists; last = last }

-- the rules of rows, apart from the one on their number
pub record AreOrdered (rows : Rows) : Type 0 where
  pub listed : AreFeaturesOf rows.collection rows.newest
  pub alike : AllByRecursion (λ (layer : LayerFeatures). layer.collection ≡ rows.collection) rows.earlier
  pub each : AllByRecursion (λ (layer : LayerFeatures). AreFeaturesOf rows.collection layer.features) rows.earlier
  pub newest_open : AllByRecursion (IsOpenRow rows.last) rows.newest
  pub earlier_ended : AllByRecursion (λ (layer : LayerFeatures). AllByRecursion (IsEndedRow rows.last) layer.features) rows.earlier
  pub in_turn : AllComeBefore rows.earlier rows.newest

-- the revision, or one before it, entered the version
abbrev pub is_by : ℕ → Entry → Bool
is_by revision entry = int_le (pos entry.entered) (pos revision)

-- what these of the entries show of the collection at a revision
abbrev pub seen_of : List Entry → Collection → ℕ → List Entry → List Item
seen_of all collection revision entries = map (λ entry. feature_at all collection entry revision) (filter (entry_in collection) (filter (is_by revision) entries))
