-- What is told of features with changes after more of them.
use Rattle.std.proofs.Common.{◌≡◌, ◌∙◌, ℕ, List, ap}
use Rattle.cad_feature.specs.Features.{Item, by_identifier}
use Rattle.cad_index.specs.Layers.{LayerFeatures}
use Rattle.cad_layer.specs.lemmas.ItemLemmas.{items_total}
use Rattle.cad_layer.specs.lemmas.MergeLemmas.{merged_merged}
use Rattle.cad_layer.specs.Segments.{SegmentFeatures}
use Rattle.cad_layer.specs.Walks.{all_in}

abbrev seen : LayerFeatures → List Item → LayerFeatures
seen f changes = record { collection = f.collection; features = all_in f.features changes }

abbrev seen_from : ℕ → LayerFeatures → List Item → SegmentFeatures
seen_from start f changes = record { start = start; collection = f.collection; features = all_in f.features changes }

module _ (f shared : LayerFeatures) (is : shared ≡ f) (changes old touched new : List Item) (same : old ≡ changes) (added : new ≡ all_in old touched) where
  more_of : seen shared new ≡ seen (seen f changes) touched
  more_of =
      ap (λ m. seen m new) is ∙ ap (seen f) (added ∙ ap (λ xs. all_in xs touched) same)
      ∙ ap (λ (xs : List Item). let m : LayerFeatures = record { collection = f.collection; features = xs } in m) (merged_merged by_identifier items_total f.features changes touched)

  pub more_seen : (self : LayerFeatures) → seen f changes ≡ self → seen shared new ≡ seen self touched
  more_seen self was = more_of ∙ ap (λ m. seen m touched) was

  pub more_seen_from : (start : ℕ) (self : SegmentFeatures) → seen_from start f changes ≡ self
      → seen_from start shared new ≡ record { start = self.start; collection = self.collection; features = all_in self.features touched }
  more_seen_from start self was =
      ap (λ (m : LayerFeatures). let n : SegmentFeatures = record { start = start; collection = m.collection; features = m.features } in n) more_of
      ∙ ap (λ (m : SegmentFeatures). let n : SegmentFeatures = record { start = m.start; collection = m.collection; features = all_in m.features touched } in n) was
