use Rattle.cad_versions.specs.Command.{object_named}
use Rattle.cad_layer.specs.Identifiers.{of_object}
use Rattle.cad_changes.proofs.FitLemmas.{left_step}
use Rattle.cad_changes.proofs.leaving.own_left.Goals as goal

pub loop-feature-preserved : goal.loop-feature-preserved
loop-feature-preserved c = record {
  so_far = left_step c.args.command.now c.args.features.now.collection _ (of_object (object_named c.args.command.now) c.args.features.now.features) c.loop-feature.all.items _ c.in-Some.feature.now _ _ c.collection-collection.ensures.collection c.loop-feature.invariant.so_far c.in-Some.ensures c.in_ok-push_left.ensures;
}
