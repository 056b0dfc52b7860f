use Rattle.std.proofs.Common.{None, Some, ◌∙◌, ap, subst}
use Rattle.std.specs.Option.{option_copied}
use Rattle.cad_index.specs.Layers.{LayerFeatures}
use Rattle.cad_layer.specs.Identifiers.{identifier, IsTheOne}
use Rattle.cad_layer.specs.lemmas.LookupLemmas.{changed_one, base_one}
use Rattle.cad_layer.specs.Segments.{SegmentFeatures}
use Rattle.cad_layer.specs.declared.recent.Recent.{Recent}
use Rattle.cad_layer.proofs.segment.Segment.feature.Goals as goal

pub returns-in-Some : goal.returns-in-Some
returns-in-Some c =
    let wanted = identifier c.args.object c.args.number in
    let changes = c.deref.ensures.value ∙ ap (λ (m : Recent). m.changes.items) c.recent_of.ensures in
    let one = subst (λ xs. IsTheOne wanted xs (Some c.in-Some.feature.now)) changes c.in-Some.ensures in
    subst (λ (s : SegmentFeatures). IsTheOne wanted s.features (Some c.in-Some.feature.now)) c.self.view_is (changed_one wanted c.self.inside.indexed.value.features c.self.inside.recent.value.changes.items c.in-Some.feature.now c.self.invariant.1.ascending one)

pub returns-in-None : goal.returns-in-None
returns-in-None c =
    let wanted = identifier c.args.object c.args.number in
    let found = option_copied c.feature.result in
    let changes = c.deref.ensures.value ∙ ap (λ (m : Recent). m.changes.items) c.recent_of.ensures in
    let none = subst (λ xs. IsTheOne wanted xs None) changes c.in-None.ensures in
    let one = subst (λ (m : LayerFeatures). IsTheOne wanted m.features found) c.shared.ensures c.feature.ensures.one in
    subst (λ (s : SegmentFeatures). IsTheOne wanted s.features found) c.self.view_is (base_one wanted c.self.inside.indexed.value.features c.self.inside.recent.value.changes.items found none one)
