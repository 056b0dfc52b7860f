-- From the last revision on the newest rows are shown, and no earlier one.
use Rattle.std.proofs.Common.{◌≡◌, ℕ, ◌<◌, ◌≤◌, true, false, List, [], ◌∷◌, refl, ap₂, ◌∙◌, arith}
use Rattle.std.specs.List.{AllByRecursion}
use Rattle.cad_versions.specs.lemmas.ListLemmas.{all_weaker}
use Rattle.cad_feature.specs.Features.{Item, by_identifier}
use Rattle.cad_index.specs.Layers.{LayerFeatures}
use Rattle.cad_layer.specs.Walks.{all_in}
use Rattle.cad_layer.specs.lemmas.ItemLemmas.{items_total}
use Rattle.cad_history.specs.Rows.{Rows, AreRows, IsOpenRow, IsEndedRow, is_shown_at, rows_at, earlier_at}
use Rattle.cad_history.specs.lemmas.ApartLemmas.{none}
use Rattle.cad_history.specs.lemmas.RowLemmas.{all_pass, none_passes, hidden, open_shown}

module _ (r : ℕ) (within : r < 4294967295) where
  none_shown : (last : ℕ) (xs : List Item) → last ≤ r → AllByRecursion (IsEndedRow last) xs → rows_at r xs ≡ []
  none_shown last xs later ends = none_passes (is_shown_at r) xs (all_weaker (IsEndedRow last) (λ x. is_shown_at r x ≡ false) (λ x e. hidden r x (omega (arith, e, later))) xs ends)

  none_earlier : (last : ℕ) (layers : List LayerFeatures) → last ≤ r → AllByRecursion (λ (layer : LayerFeatures). AllByRecursion (IsEndedRow last) layer.features) layers → earlier_at r layers ≡ []
  none_earlier last [] later ends = refl
  none_earlier last (layer ∷ layers) later ends = ap₂ all_in (none_shown last layer.features later ends.0) (none_earlier last layers later ends.1)

  -- all newest rows are shown, and no earlier one
  pub newest_shown : (rows : Rows) → AreRows rows → rows.last ≤ r → all_in (earlier_at r rows.earlier) (rows_at r rows.newest) ≡ rows.newest
  newest_shown rows are later =
      ap₂ all_in (none_earlier rows.last rows.earlier later are.earlier_ended)
      (all_pass (is_shown_at r) rows.newest (all_weaker (IsOpenRow rows.last) (λ x. is_shown_at r x ≡ true) (λ x row. open_shown r within x (omega (arith, row.begun, later)) row.endless) rows.newest are.newest_open))
      ∙ none by_identifier items_total rows.newest are.listed.ascending
