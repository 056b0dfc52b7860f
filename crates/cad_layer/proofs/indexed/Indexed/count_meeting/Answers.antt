use Rattle.std.proofs.Common.{ap, arith, ◌∙◌}
use Rattle.cad_index.specs.Layers.{LayerFeatures}
use Rattle.cad_lookup.specs.Ways.{how_many}
use Rattle.cad_layer.proofs.CountedLemmas.{merged_count}
use Rattle.cad_layer.proofs.indexed.Indexed.count_meeting.Goals as goal

pub overflow_sub-result : goal.overflow_sub-result
overflow_sub-result g c =
    let passes = g.T.Criterion.passes c.args.criterion.now in
    let base = c.count_indexed.ensures.passing ∙ ap (λ (f : LayerFeatures). how_many passes f.features) c.shared.ensures in
    omega (
      arith,
      base,
      c.count_indexed-2.ensures.passing,
      c.count_indexed-3.ensures.passing,
      merged_count c.self.inside.base.value.features c.self.inside.older.features c.self.inside.replaced.features (c.self.invariant.0.ascending, c.self.invariant.1.ascending) c.self.invariant.3 passes,
    )

pub returns-clause-passing : goal.returns-clause-passing
returns-clause-passing g c =
    let passes = g.T.Criterion.passes c.args.criterion.now in
    let base = c.count_indexed.ensures.passing ∙ ap (λ (f : LayerFeatures). how_many passes f.features) c.shared.ensures in
    omega (
      arith,
      base,
      c.count_indexed-2.ensures.passing,
      c.count_indexed-3.ensures.passing,
      ap (λ (f : LayerFeatures). how_many passes f.features) c.self.view_is,
      merged_count c.self.inside.base.value.features c.self.inside.older.features c.self.inside.replaced.features (c.self.invariant.0.ascending, c.self.invariant.1.ascending) c.self.invariant.3 passes,
    )
