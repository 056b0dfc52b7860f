-- Rows that are lent at a revision.
use Rattle.std.proofs.Common.{◌≡◌, ◌∙◌, ℕ, ◌<◌, ◌≤◌, List, length, sym, ap, subst, arith, Option, Some, None}
use Rattle.std.specs.List.{AllByRecursion}
use Rattle.cad_schema.specs.declared.collection.Collection.{Collection}
use Rattle.cad_feature.specs.Features.{AreFeaturesOf}
use Rattle.cad_index.specs.Layers.{LayerFeatures}
use Rattle.cad_history.specs.declared.moment.Past.{Past}
use Rattle.cad_history.specs.Lent.{AreInTurn, AreLent, features_lent}
use Rattle.cad_history.specs.Rows.{AllComeBefore, AreRows, Rows, earlier_count, features_at}
use Rattle.cad_history.specs.lemmas.NewestLemmas.{newest_shown}
use Rattle.cad_history.specs.lemmas.NextLemmas.{features_listed}

module _ (rows : Rows) (are : AreRows rows) (newest : LayerFeatures) (same : newest.collection ≡ rows.collection) (is : newest.features ≡ rows.newest) where
  pub all_newest : (r : ℕ) → r < 4294967295 → rows.last ≤ r → newest ≡ record { collection = rows.collection; features = features_at r rows }
  all_newest r within later = λ i. record { collection = same i; features = (is ∙ sym (newest_shown r within rows are later)) i }

  pub in_turn : (earlier : List LayerFeatures) → earlier ≡ rows.earlier → AreInTurn newest earlier
  in_turn earlier are_earlier = record {
    each = subst (AllByRecursion (λ (layer : LayerFeatures). AreFeaturesOf newest.collection layer.features)) (sym are_earlier)
        (subst (λ (k : Collection). AllByRecursion (λ (layer : LayerFeatures). AreFeaturesOf k layer.features) rows.earlier) (sym same) are.each);
    in_turn = subst (λ ls. AllComeBefore ls newest.features) (sym are_earlier) (subst (AllComeBefore rows.earlier) (sym is) are.in_turn);
    few = omega (arith, are.few, ap length is, ap earlier_count are_earlier);
  }

pub lent_listed : (newest : LayerFeatures) (past : Option Past) → AreFeaturesOf newest.collection newest.features → AreLent newest past → AreFeaturesOf newest.collection (features_lent newest.features past)
lent_listed newest None all lent = all
lent_listed newest (Some past) all lent = features_listed newest.collection past.revision newest.features past.earlier.now all lent.each
