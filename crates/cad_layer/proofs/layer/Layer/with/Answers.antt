use Rattle.std.proofs.Common.{◌∙◌, ap, length, subst, sym}
use Rattle.cad_feature.specs.Features.{AreFeaturesOf}
use Rattle.cad_index.specs.Layers.{LayerFeatures}
use Rattle.cad_layer.specs.Segments.{joined, with_in}
use Rattle.cad_layer.proofs.LayerLemmas.{spread_alike, spread_apart, spread_listed, spread_seen, spread_some}
use Rattle.cad_layer.proofs.layer.Layer.with.Goals as goal

pub invariant_of-result : goal.invariant_of-result
invariant_of-result c =
    let inside = c.self.inside in
    let old = inside.segments.value.items in
    let new = c.in_ok-segments-2.segments.value.items in
    let touched = c.args.touched.items in
    let is = c.in_ok-segments-2.ensures ∙ c.in_ok-segments.ensures ∙ ap (λ l. with_in l touched) c.listed-segments.ensures in
    let listed = subst (λ (m : LayerFeatures). AreFeaturesOf m.collection touched) (sym c.self.view_is) c.requires in
    let apart = c.self.invariant.1 in
    let some = c.self.invariant.4 in (
      spread_listed inside.collection old new touched is some apart listed.ascending c.self.invariant.0 listed,
      spread_apart inside.collection old new touched is some apart listed.ascending,
      spread_alike inside.collection old new touched is some apart listed.ascending c.self.invariant.2,
      c.in-Some.ensures ∙ ap (λ l. length (joined l)) (c.deref.ensures.value ∙ sym c.in_ok-segments-2.ensures),
      spread_some inside.collection old new touched is some apart listed.ascending,
    )

pub returns : goal.returns
returns c =
    let inside = c.self.inside in
    let old = inside.segments.value.items in
    let new = c.in_ok-segments-2.segments.value.items in
    let touched = c.args.touched.items in
    let is = c.in_ok-segments-2.ensures ∙ c.in_ok-segments.ensures ∙ ap (λ l. with_in l touched) c.listed-segments.ensures in
    spread_seen inside.collection old new touched is c.self.invariant.4 c.self.invariant.1 c.requires.ascending c.args.self.now c.self.view_is
