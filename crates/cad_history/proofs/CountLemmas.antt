-- How many features there are at a revision, list by list.
use Rattle.std.proofs.Common.{◌≡◌, ℕ, ◌+◌, ◌≤◌, Bool, List, [], ◌∷◌, length, ap, arith, Some}
use Rattle.std.specs.List.Sorted.{IsStrictlySortedBy}
use Rattle.std.proofs.lemmas.List.Sums.{count_by-le-length}
use Rattle.cad_versions.specs.lemmas.ListLemmas.{all_weaker, filter_fewer}
use Rattle.cad_feature.specs.Features.{Item, AreFeaturesOf, by_identifier}
use Rattle.cad_index.specs.Layers.{LayerFeatures}
use Rattle.cad_layer.specs.lemmas.CountLemmas.{counted_by}
use Rattle.cad_lookup.specs.Ways.{how_many}
use Rattle.cad_history.specs.Lent.{AreInTurn, features_lent}
use Rattle.cad_history.specs.Rows.{earlier_count, is_shown_at, rows_at}
use Rattle.cad_history.specs.declared.moment.Past.{Past}
use Rattle.cad_history.specs.lemmas.ShownLemmas.{features_counted}
use Rattle.cad_history.specs.lemmas.ShownLemmas as shown

module _ (p : Item → Bool) (revision : ℕ) where
  -- of the earlier lists
  abbrev pub counted_in : List LayerFeatures → ℕ
  counted_in layers = shown.earlier_count revision p layers

  few_rows : (xs : List Item) → how_many p (rows_at revision xs) ≤ length xs
  few_rows xs = omega (arith, counted_by p (rows_at revision xs), count_by-le-length p (rows_at revision xs), filter_fewer (is_shown_at revision) xs)

  few_earlier : (layers : List LayerFeatures) → counted_in layers ≤ earlier_count layers
  few_earlier [] = omega arith
  few_earlier (layer ∷ layers) = omega (arith, few_rows layer.features, few_earlier layers)

  -- one list more
  pub one_counted : (layers : List LayerFeatures) (layer : LayerFeatures) (behind : List LayerFeatures) (whole count n : ℕ) → layers ≡ layer ∷ behind → n ≡ how_many p (rows_at revision layer.features)
      → count + counted_in layers ≡ whole → count + n + counted_in behind ≡ whole
  one_counted layers layer behind whole count n is counted so_far = omega (arith, so_far, counted, ap counted_in is)

module _ (p : Item → Bool) (newest : LayerFeatures) (past : Past) where
  -- of all lists
  abbrev pub whole_count : ℕ
  whole_count = how_many p (rows_at past.revision newest.features) + counted_in p past.revision past.earlier.now

  pub few_counted : AreInTurn newest past.earlier.now → whole_count ≤ 18446744073709551615
  few_counted lent = omega (arith, few_rows p past.revision newest.features, few_earlier p past.revision past.earlier.now, lent.few)

  pub all_counted : AreInTurn newest past.earlier.now → IsStrictlySortedBy by_identifier newest.features → whole_count ≡ how_many p (features_lent newest.features (Some past))
  all_counted lent rising =
      let up = all_weaker (λ (layer : LayerFeatures). AreFeaturesOf newest.collection layer.features) (λ (layer : LayerFeatures). IsStrictlySortedBy by_identifier layer.features) (λ layer a. a.ascending) past.earlier.now lent.each in
      omega (arith, features_counted past.revision p past.earlier.now newest.features up rising lent.in_turn)
