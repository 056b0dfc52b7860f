use Rattle.std.proofs.Common.{◌≡◌, ◌++◌, length}
use Rattle.std.specs.List.{AllByRecursion}
use Rattle.cad_feature.specs.Features.{AreFeaturesOf}
use Rattle.cad_layer.specs.Segments.{SegmentFeatures, with_in}
use Rattle.cad_layer.proofs.spreading.spread.Given as goal

abbrev pub invariant-loop-segment : goal.invariant-loop-segment
invariant-loop-segment l = record {
  so_far : with_in l.segments l.fn.touched.items ≡ l.all.items ++ with_in l.rest l.left.items;
  alike : AllByRecursion (λ (s : SegmentFeatures). s.collection ≡ l.fn.collection) l.rest;
  listed : AreFeaturesOf l.fn.collection l.left.items;
}

abbrev pub decreases-loop-segment : goal.decreases-loop-segment
decreases-loop-segment l = length l.rest
