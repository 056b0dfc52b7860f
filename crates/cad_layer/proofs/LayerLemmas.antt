-- What is told of a layer, by its segments.
use Rattle.std.proofs.Common.{◌≡◌, ◌∙◌, ◌<◌, List, [], ◌∷◌, length, ap, arith, subst, sym}
use Rattle.std.specs.List.{AllByRecursion}
use Rattle.std.specs.List.Sorted.{IsStrictlySortedBy}
use Rattle.cad_schema.specs.declared.collection.Collection.{Collection}
use Rattle.cad_feature.specs.Features.{AreFeaturesOf, Item, by_identifier}
use Rattle.cad_index.specs.Layers.{LayerFeatures}
use Rattle.cad_layer.specs.lemmas.ListedLemmas.{listed_is}
use Rattle.cad_layer.specs.lemmas.SegmentLemmas.{collections_with, joined_with, segments_with}
use Rattle.cad_layer.specs.Segments.{AreSegments, SegmentFeatures, joined, with_in}
use Rattle.cad_layer.specs.Walks.{all_in}

pub nothing_rises : IsStrictlySortedBy by_identifier []
unfolding IsStrictlySortedBy
nothing_rises = tt

abbrev pub seen : Collection → List SegmentFeatures → LayerFeatures
seen collection segments = record { collection = collection; features = joined segments }

module _ (collection : Collection) (segments new : List SegmentFeatures) (touched : List Item) (is : new ≡ with_in segments touched) (some : 0 < length segments) (apart : AreSegments segments) (up : IsStrictlySortedBy by_identifier touched) where
  pub spread_joined : joined new ≡ all_in (joined segments) touched
  spread_joined = ap joined is ∙ go segments some apart
    where
      go : (ss : List SegmentFeatures) → 0 < length ss → AreSegments ss → joined (with_in ss touched) ≡ all_in (joined ss) touched
      go [] h all = absurd (omega (arith, h))
      go (s ∷ ss) h all = joined_with s ss touched all up

  pub spread_apart : AreSegments new
  spread_apart = subst AreSegments (sym is) (go segments some apart)
    where
      go : (ss : List SegmentFeatures) → 0 < length ss → AreSegments ss → AreSegments (with_in ss touched)
      go [] h all = tt
      go (s ∷ ss) h all = segments_with s ss touched all up

  pub spread_some : 0 < length new
  spread_some = subst (λ (ss : List SegmentFeatures). 0 < length ss) (sym is) (go segments some)
    where
      go : (ss : List SegmentFeatures) → 0 < length ss → 0 < length (with_in ss touched)
      go [] h = absurd (omega (arith, h))
      go (s ∷ ss) h = omega arith

  pub spread_alike : AllByRecursion (λ (s : SegmentFeatures). s.collection ≡ collection) segments → AllByRecursion (λ (s : SegmentFeatures). s.collection ≡ collection) new
  spread_alike all = subst (AllByRecursion (λ (s : SegmentFeatures). s.collection ≡ collection)) (sym is) (collections_with collection segments touched all)

  pub spread_listed : AreFeaturesOf collection (joined segments) → AreFeaturesOf collection touched → AreFeaturesOf collection (joined new)
  spread_listed all more = listed_is collection (joined segments) touched (joined new) spread_joined all more

  pub spread_seen : (self : LayerFeatures) → seen collection segments ≡ self → seen collection new ≡ record { collection = self.collection; features = all_in self.features touched }
  spread_seen self same =
      ap (λ (xs : List Item). let m : LayerFeatures = record { collection = collection; features = xs } in m) spread_joined
      ∙ ap (λ (m : LayerFeatures). let n : LayerFeatures = record { collection = m.collection; features = all_in m.features touched } in n) same
