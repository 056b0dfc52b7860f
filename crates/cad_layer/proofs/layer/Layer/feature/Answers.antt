use Rattle.std.proofs.Common.{None, ◌∙◌, ap, subst}
use Rattle.std.specs.Option.{option_copied}
use Rattle.cad_index.specs.Layers.{LayerFeatures}
use Rattle.cad_layer.specs.Identifiers.{IsTheOne, identifier}
use Rattle.cad_layer.specs.Segments.{joined}
use Rattle.cad_layer.proofs.SearchingLemmas.{none_among, one_among}
use Rattle.cad_layer.proofs.layer.Layer.feature.Goals as goal

pub returns-in-None : goal.returns-in-None
returns-in-None c =
    subst (λ xs. IsTheOne (identifier c.args.object c.args.number) xs None) (ap joined c.listed.ensures ∙ ap (λ (m : LayerFeatures). m.features) c.self.view_is)
    (none_among c.args.object c.args.number (joined c.listed.result.now) c.in-None.ensures)

pub returns-in-Some : goal.returns-in-Some
returns-in-Some c =
    subst (λ xs. IsTheOne (identifier c.args.object c.args.number) xs (option_copied c.feature.result)) (ap joined c.listed.ensures ∙ ap (λ (m : LayerFeatures). m.features) c.self.view_is)
    (one_among c.args.object c.args.number c.in-Some.segment.now.features (joined c.listed.result.now) (option_copied c.feature.result) c.in-Some.ensures c.feature.ensures)
