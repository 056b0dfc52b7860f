use Rattle.std.proofs.Common.{ap, ◌∙◌}
use Rattle.cad_feature.specs.Features.{by_identifier}
use Rattle.cad_layer.specs.Identifiers.{of_object}
use Rattle.cad_layer.specs.lemmas.ItemLemmas.{items_total}
use Rattle.cad_layer.specs.lemmas.MergeLemmas.{merged_ascends}
use Rattle.cad_layer.proofs.RunLemmas.{object_rises, object_merged}
use Rattle.cad_layer.proofs.walk.Walk.of_object.Goals as goal

pub invariant_of-result : goal.invariant_of-result
invariant_of-result c =
    let object = c.args.object in
    let rises = object_rises object _ _ c.run_of.ensures c.self.invariant.0.0 in
    ((rises, object_rises object _ _ c.run_of-2.ensures c.self.invariant.0.1), (merged_ascends by_identifier items_total _ c.run_of-2.result.now rises, object_rises object _ _ c.changes_to-changes.ensures c.self.invariant.1.1))

pub returns : goal.returns
returns c =
    let object = c.args.object in
    let indexed = object_merged object _ _ _ _ c.run_of.ensures c.run_of-2.ensures c.self.invariant.0 in
    object_merged object _ _ _ _ indexed c.changes_to-changes.ensures c.self.invariant.1 ∙ ap (of_object object) c.self.view_is
