-- How many features of segments pass a test, one segment after the other.
use Rattle.std.proofs.Common.{◌≡◌, ℕ, ◌+◌, Bool, List, ◌∷◌, ap, arith}
use Rattle.cad_feature.specs.Features.{Item}
use Rattle.cad_lookup.specs.Ways.{how_many}
use Rattle.cad_layer.specs.lemmas.CountLemmas.{both}
use Rattle.cad_layer.specs.Segments.{SegmentFeatures, joined}

module _ (p : Item → Bool) where
  pub sum_more : (rest : List SegmentFeatures) (s : SegmentFeatures) (behind : List SegmentFeatures) (whole count n : ℕ) → rest ≡ s ∷ behind → n ≡ how_many p s.features
      → whole ≡ count + how_many p (joined rest) → whole ≡ count + n + how_many p (joined behind)
  sum_more rest s behind whole count n is counted so_far = omega (arith, so_far, counted, ap (λ l. how_many p (joined l)) is, both p s.features (joined behind))
