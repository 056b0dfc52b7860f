use Rattle.std.proofs.Common.{ap, arith, length, ◌∙◌}
use Rattle.cad_index.specs.Layers.{LayerFeatures}
use Rattle.cad_layer.proofs.CountedLemmas.{merged_length}
use Rattle.cad_layer.proofs.indexed.Indexed.count.Goals as goal

pub overflow_sub-result : goal.overflow_sub-result
overflow_sub-result c =
    let base = ap length (c.features-base.ensures.features ∙ ap (λ (f : LayerFeatures). f.features) c.shared.ensures) in
    omega (
      arith,
      base,
      ap length c.features-older.ensures.features,
      ap length c.features-replaced.ensures.features,
      merged_length c.self.inside.base.value.features c.self.inside.older.features c.self.inside.replaced.features (c.self.invariant.0.ascending, c.self.invariant.1.ascending) c.self.invariant.3,
    )

pub returns-clause-count : goal.returns-clause-count
returns-clause-count c =
    let base = ap length (c.features-base.ensures.features ∙ ap (λ (f : LayerFeatures). f.features) c.shared.ensures) in
    omega (
      arith,
      base,
      ap length c.features-older.ensures.features,
      ap length c.features-replaced.ensures.features,
      ap (λ (f : LayerFeatures). length f.features) c.self.view_is,
      merged_length c.self.inside.base.value.features c.self.inside.older.features c.self.inside.replaced.features (c.self.invariant.0.ascending, c.self.invariant.1.ascending) c.self.invariant.3,
    )

pub returns-clause-few : goal.returns-clause-few
returns-clause-few c = omega (arith, c.features-base.ensures.few, c.features-older.ensures.few)
