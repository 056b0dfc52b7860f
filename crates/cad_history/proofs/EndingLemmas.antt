-- Rows that are ended and put into lists, one after the other.
use Rattle.std.proofs.Common.{◌≡◌, ℕ, not, List, [], ◌∷◌, ◌++◌, map, Option, refl, sym, ap, ◌∙◌, subst, append_assoc, append-nil}
use Rattle.std.specs.List.{AllByRecursion}
use Rattle.std.specs.List.Sorted.{IsStrictlySortedBy}
use Rattle.std.proofs.lemmas.List.{map-append}
use Rattle.cad_schema.specs.declared.collection.Collection.{Collection}
use Rattle.cad_feature.specs.Features.{Item, identifier_of, by_identifier, AreFeaturesOf}
use Rattle.cad_index.specs.Layers.{LayerFeatures}
use Rattle.cad_layer.specs.Identifiers.{IsTheOne}
use Rattle.cad_layer.specs.Walks.{all_in}
use Rattle.cad_history.specs.inner.Ending.{ended, listed, replaced_by, is_in_none, absent_in, present_in, with_ended}
use Rattle.cad_history.specs.lemmas.NextLemmas.{filter_listed}
use Rattle.cad_history.specs.lemmas.ReplacedLemmas.{first_replaced}

module _ (rest : List Item) (t : Item) (behind : List Item) (is : rest ≡ t ∷ behind) (up : IsStrictlySortedBy by_identifier rest) where
  rises : IsStrictlySortedBy by_identifier (t ∷ behind)
  rises = subst (IsStrictlySortedBy by_identifier) is up

  pub rest_rises : IsStrictlySortedBy by_identifier behind
  unfolding IsStrictlySortedBy
  rest_rises = rises.1

  pub ended_more : (revision : ℕ) (newest : List Item) (found : Option Item) (all pushed whole : List Item) → IsStrictlySortedBy by_identifier newest → IsTheOne (identifier_of t) newest found
      → whole ≡ all ++ map (ended revision) (replaced_by rest newest) → pushed ≡ all ++ map (ended revision) (listed found) → whole ≡ pushed ++ map (ended revision) (replaced_by behind newest)
  unfolding IsStrictlySortedBy
  ended_more revision newest found all pushed whole ascending one so_far is_pushed =
      so_far
      ∙ ap (λ ts. all ++ map (ended revision) (replaced_by ts newest)) is
      ∙ ap (λ xs. all ++ map (ended revision) xs) (first_replaced t behind rises.0 newest found ascending one)
      ∙ ap (λ xs. all ++ xs) (map-append (ended revision) (listed found) (replaced_by behind newest))
      ∙ sym (append_assoc all (map (ended revision) (listed found)) (map (ended revision) (replaced_by behind newest)))
      ∙ ap (λ xs. xs ++ map (ended revision) (replaced_by behind newest)) (sym is_pushed)

module _ (c : Collection) (rest : List LayerFeatures) (layer : LayerFeatures) (behind : List LayerFeatures) (is : rest ≡ layer ∷ behind) where
  pub first_alike : AllByRecursion (λ (l : LayerFeatures). l.collection ≡ c) rest → layer.collection ≡ c
  first_alike all = (subst (AllByRecursion (λ (l : LayerFeatures). l.collection ≡ c)) is all).0

  pub others_alike : AllByRecursion (λ (l : LayerFeatures). l.collection ≡ c) rest → AllByRecursion (λ (l : LayerFeatures). l.collection ≡ c) behind
  others_alike all = (subst (AllByRecursion (λ (l : LayerFeatures). l.collection ≡ c)) is all).1

  pub absent_listed : (left absent : List Item) → absent ≡ absent_in rest left → AreFeaturesOf c left → AreFeaturesOf c absent
  absent_listed left absent e all = subst (AreFeaturesOf c) (sym e) (filter_listed c (is_in_none rest) left all)

  pub present_listed : (left present : List Item) → present ≡ present_in rest left → AreFeaturesOf c left → AreFeaturesOf c present
  present_listed left present e all = subst (AreFeaturesOf c) (sym e) (filter_listed c (λ x. not (is_in_none rest x)) left all)

  pub with_more : (all pushed whole : List LayerFeatures) (new : LayerFeatures) (left absent present : List Item) → absent ≡ absent_in rest left → present ≡ present_in rest left
      → new ≡ record { collection = layer.collection; features = all_in layer.features absent } → pushed ≡ all ++ new ∷ [] → whole ≡ all ++ with_ended c rest left → whole ≡ pushed ++ with_ended c behind present
  with_more all pushed whole new left absent present is_absent is_present is_new is_pushed so_far =
      so_far ∙ ap (λ l. all ++ with_ended c l left) is
      ∙ sym (append_assoc all ((record { collection = layer.collection; features = all_in layer.features (absent_in (layer ∷ behind) left) }) ∷ []) (with_ended c behind (present_in (layer ∷ behind) left)))
      ∙ ap (λ xs. (all ++ (record { collection = layer.collection; features = all_in layer.features xs }) ∷ []) ++ with_ended c behind (present_in (layer ∷ behind) left)) (ap (λ l. absent_in l left) (sym is) ∙ sym is_absent)
      ∙ ap (λ n. (all ++ n ∷ []) ++ with_ended c behind (present_in (layer ∷ behind) left)) (sym is_new)
      ∙ ap (λ l. l ++ with_ended c behind (present_in (layer ∷ behind) left)) (sym is_pushed)
      ∙ ap (λ xs. pushed ++ with_ended c behind xs) (ap (λ l. present_in l left) (sym is) ∙ sym is_present)

none_replaced : (newest : List Item) → replaced_by [] newest ≡ []
none_replaced [] = refl
none_replaced (x ∷ xs) = none_replaced xs

pub all_ended_are : (revision : ℕ) (newest rest all whole : List Item) → rest ≡ [] → whole ≡ all ++ map (ended revision) (replaced_by rest newest) → all ≡ whole
all_ended_are revision newest rest all whole is so_far =
    sym (so_far ∙ ap (λ ts. all ++ map (ended revision) (replaced_by ts newest)) is ∙ ap (λ xs. all ++ map (ended revision) xs) (none_replaced newest) ∙ append-nil all)
