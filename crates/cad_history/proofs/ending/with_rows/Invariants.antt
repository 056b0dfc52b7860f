use Rattle.std.proofs.Common.{◌≡◌, ◌++◌, length}
use Rattle.std.specs.List.{AllByRecursion}
use Rattle.cad_feature.specs.Features.{AreFeaturesOf}
use Rattle.cad_index.specs.Layers.{LayerFeatures}
use Rattle.cad_history.specs.inner.Ending.{with_ended}
use Rattle.cad_history.proofs.ending.with_rows.Given as goal

abbrev pub invariant-loop-layer : goal.invariant-loop-layer
invariant-loop-layer l = record {
  so_far : with_ended l.fn.collection l.earlier l.fn.rows.items ≡ l.all.items ++ with_ended l.fn.collection l.rest l.left.items;
  alike : AllByRecursion (λ (layer : LayerFeatures). layer.collection ≡ l.fn.collection) l.rest;
  listed : AreFeaturesOf l.fn.collection l.left.items;
}

abbrev pub decreases-loop-layer : goal.decreases-loop-layer
decreases-loop-layer l = length l.rest
