-- The rows that a history has after a revision.
use Rattle.std.proofs.Common.{◌≡◌, ◌∙◌, ℕ, ◌<◌, ◌≤◌, List, map, sym, ap, subst}
use Rattle.cad_feature.specs.Features.{Item, AreFeaturesOf}
use Rattle.cad_index.specs.Layers.{LayerFeatures}
use Rattle.cad_layer.specs.Walks.{all_in}
use Rattle.cad_history.specs.inner.Ending.{ended, begun, replaced_by, with_ended}
use Rattle.cad_history.specs.Lent.{rows_of}
use Rattle.cad_history.specs.Rows.{Rows, AreRows, AreNext, row_count}
use Rattle.cad_history.specs.lemmas.NextLemmas.{next_rows, are_next, are_rows, begun_listed, ended_listed}

module _ (revision : ℕ) (few : revision < 4294967295) (touched : List Item) (old now : Rows) (view_is : old ≡ now) (later : now.last < revision) (rows : AreRows old) (listed : AreFeaturesOf now.collection touched) where
  sooner : old.last < revision
  sooner = subst (λ (s : Rows). s.last < revision) (sym view_is) later

  own : AreFeaturesOf old.collection touched
  own = subst (λ (s : Rows). AreFeaturesOf s.collection touched) (sym view_is) listed

  pub ended_are : (xs : List Item) → xs ≡ map (ended revision) (replaced_by touched old.newest) → AreFeaturesOf old.collection xs
  ended_are xs e = subst (AreFeaturesOf old.collection) (sym e) (ended_listed revision few touched old sooner rows own)

  pub begun_are : (xs : List Item) → xs ≡ map (begun revision) touched → AreFeaturesOf old.collection xs
  begun_are xs e = subst (AreFeaturesOf old.collection) (sym e) (begun_listed revision few touched old sooner rows own)

  module _ (newest : LayerFeatures) (earlier : List LayerFeatures) (ends begins : List Item) (are_ended : ends ≡ map (ended revision) (replaced_by touched old.newest)) (are_begun : begins ≡ map (begun revision) touched)
      (is_earlier : earlier ≡ with_ended old.collection old.earlier ends) (is_newest : newest ≡ record { collection = old.collection; features = all_in old.newest begins }) where
    new : Rows
    new = record { collection = newest.collection; newest = newest.features; earlier = earlier; last = revision }

    same : record { collection = newest.collection; newest = newest.features; earlier = earlier; last = revision } ≡ next_rows revision few touched old sooner rows own
    same = λ i. record {
      collection = (is_newest i).collection;
      newest = (ap (λ (l : LayerFeatures). l.features) is_newest ∙ ap (all_in old.newest) are_begun) i;
      earlier = (is_earlier ∙ ap (with_ended old.collection old.earlier) are_ended) i;
      last = revision;
    }

    pub are_new : row_count (rows_of newest earlier) ≤ 18446744073709551615 → AreRows (record { collection = newest.collection; newest = newest.features; earlier = earlier; last = revision })
    are_new countable = subst AreRows (sym same) (are_rows revision few touched old sooner rows own (subst (λ s. row_count s ≤ 18446744073709551615) same countable))

    pub is_next : (result : Rows) → result ≡ record { collection = newest.collection; newest = newest.features; earlier = earlier; last = revision } → AreNext revision touched now result
    is_next result e = subst (λ (s : Rows). AreNext revision touched s result) view_is (subst (AreNext revision touched old) (sym (e ∙ same)) (are_next revision few touched old sooner rows own))
