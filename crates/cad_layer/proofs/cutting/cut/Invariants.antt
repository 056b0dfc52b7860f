use Rattle.std.proofs.Common.{◌≡◌, ◌++◌, ◌≤◌, length, reverse}
use Rattle.std.specs.List.{AllByRecursion}
use Rattle.cad_feature.specs.Features.{AreFeaturesOf}
use Rattle.cad_layer.specs.Segments.{AreApart, AreSegments, SegmentFeatures, joined}
use Rattle.cad_layer.proofs.CuttingLemmas.{ending}
use Rattle.cad_layer.proofs.cutting.cut.Given as goal

abbrev pub invariant-loop-left : goal.invariant-loop-left
invariant-loop-left l = record {
  so_far : l.fn.features.items ≡ l.left.items ++ joined (reverse l.segments.items);
  listed : AreFeaturesOf l.collection l.left.items;
  small : length l.left.items ≤ 4294967295;
  ends : AreApart (ending l.collection l.left.items) (reverse l.segments.items);
  apart : AreSegments (reverse l.segments.items);
  alike : AllByRecursion (λ (s : SegmentFeatures). s.collection ≡ l.collection) (reverse l.segments.items);
}

abbrev pub decreases-loop-left : goal.decreases-loop-left
decreases-loop-left l = length l.left.items
