-- Changes spread over segments, one after the other.
use Rattle.std.proofs.Common.{◌≡◌, ◌∙◌, Bool, List, [], ◌∷◌, ◌++◌, filter, not, sym, ap, subst, append_assoc}
use Rattle.std.specs.List.{AllByRecursion}
use Rattle.std.proofs.lemmas.List.Elements.{All-filter}
use Rattle.std.proofs.lemmas.List.Kept.{IsStrictlySortedBy-filter}
use Rattle.cad_schema.specs.declared.collection.Collection.{Collection}
use Rattle.cad_feature.specs.Features.{AreFeaturesOf, IsFeatureOf, Item, by_identifier}
use Rattle.cad_layer.specs.lemmas.ListedLemmas.{none_listed}
use Rattle.cad_layer.specs.Segments.{SegmentFeatures, is_from, left_of, own_of, with_in}
use Rattle.cad_layer.specs.Walks.{all_in}

pub filtered : (c : Collection) (p : Item → Bool) (xs : List Item) → AreFeaturesOf c xs → AreFeaturesOf c (filter p xs)
filtered c p xs all = record { each = All-filter p (IsFeatureOf c) xs all.each; ascending = IsStrictlySortedBy-filter by_identifier p xs all.ascending }

pub own_listed : (c : Collection) (ss : List SegmentFeatures) (cs : List Item) → AreFeaturesOf c cs → AreFeaturesOf c (own_of ss cs)
own_listed c [] cs all = all
own_listed c (s ∷ ss) cs all = filtered c (λ x. not (is_from s.start x)) cs all

pub left_listed : (c : Collection) (ss : List SegmentFeatures) (cs : List Item) → AreFeaturesOf c cs → AreFeaturesOf c (left_of ss cs)
left_listed c [] cs all = none_listed c
left_listed c (s ∷ ss) cs all = filtered c (is_from s.start) cs all

module _ (rest : List SegmentFeatures) (s : SegmentFeatures) (behind : List SegmentFeatures) (is : rest ≡ s ∷ behind) where
  pub first_alike : (c : Collection) → AllByRecursion (λ (t : SegmentFeatures). t.collection ≡ c) rest → s.collection ≡ c
  first_alike c all = (subst (AllByRecursion (λ (t : SegmentFeatures). t.collection ≡ c)) is all).0

  pub others_alike : (c : Collection) → AllByRecursion (λ (t : SegmentFeatures). t.collection ≡ c) rest → AllByRecursion (λ (t : SegmentFeatures). t.collection ≡ c) behind
  others_alike c all = (subst (AllByRecursion (λ (t : SegmentFeatures). t.collection ≡ c)) is all).1

  pub spread_more : (all pushed whole : List SegmentFeatures) (new : SegmentFeatures) (left own later : List Item) → own ≡ own_of behind left → later ≡ left_of behind left
      → new ≡ record { start = s.start; collection = s.collection; features = all_in s.features own } → pushed ≡ all ++ new ∷ [] → whole ≡ all ++ with_in rest left → whole ≡ pushed ++ with_in behind later
  spread_more all pushed whole new left own later is_own is_later is_new is_pushed so_far =
      so_far ∙ ap (λ l. all ++ with_in l left) is
      ∙ sym (append_assoc all ((record { start = s.start; collection = s.collection; features = all_in s.features (own_of behind left) }) ∷ []) (with_in behind (left_of behind left)))
      ∙ ap (λ xs. (all ++ (record { start = s.start; collection = s.collection; features = all_in s.features xs }) ∷ []) ++ with_in behind (left_of behind left)) (sym is_own)
      ∙ ap (λ n. (all ++ n ∷ []) ++ with_in behind (left_of behind left)) (sym is_new)
      ∙ ap (λ l. l ++ with_in behind (left_of behind left)) (sym is_pushed)
      ∙ ap (λ xs. pushed ++ with_in behind xs) (sym is_later)
