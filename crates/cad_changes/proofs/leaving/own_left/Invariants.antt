use Rattle.std.proofs.Common.{◌≡◌, ◌++◌, length}
use Rattle.cad_versions.specs.Command.{object_named}
use Rattle.cad_layer.specs.Identifiers.{of_object}
use Rattle.cad_changes.specs.Touching.{items_left}
use Rattle.cad_changes.proofs.leaving.own_left.Given as goal

abbrev pub invariant-loop-feature : goal.invariant-loop-feature
invariant-loop-feature l = record {
  so_far : items_left l.command l.features.collection (of_object (object_named l.command) l.features.features) ≡ l.all.items ++ items_left l.command l.features.collection l.walk;
}

abbrev pub decreases-loop-feature : goal.decreases-loop-feature
decreases-loop-feature l = length l.walk
