use Rattle.std.proofs.Common.{◌∙◌, ap, arith, length, true}
use Rattle.cad_feature.specs.Features.{Item}
use Rattle.cad_index.specs.Layers.{LayerFeatures}
use Rattle.cad_index.specs.Moments.{rows_at}
use Rattle.cad_lookup.specs.Ways.{how_many}
use Rattle.cad_layer.specs.Segments.{joined}
use Rattle.cad_layer.specs.lemmas.MomentLemmas.{each_counted}
use Rattle.cad_layer.proofs.layer.Layer.count_at.Goals as goal

pub count_all_at-requires : goal.count_all_at-requires
count_all_at-requires c = omega (arith, ap (λ l. length (joined l)) c.listed.ensures, c.self.invariant.3)

pub returns : goal.returns
returns c =
    c.count_all_at.ensures
    ∙ ap (λ l. how_many (λ (x : Item). true) (rows_at c.args.revision (joined l))) c.listed.ensures
    ∙ ap (λ (l : LayerFeatures). how_many (λ (x : Item). true) (rows_at c.args.revision l.features)) c.self.view_is
    ∙ each_counted (rows_at c.args.revision c.args.self.now.features)
