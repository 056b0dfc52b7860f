use Rattle.std.proofs.Common.{◌≡◌, find, length}
use Rattle.cad_layer.specs.Identifiers.{of_object}
use Rattle.cad_changes.specs.Touching.{has_day}
use Rattle.cad_changes.proofs.adding.name_among.Given as goal

-- none so far has the day
abbrev pub invariant-loop-feature : goal.invariant-loop-feature
invariant-loop-feature l = record {
  found : find (has_day l.day) (of_object l.fn.object l.features.features) ≡ find (has_day l.day) l.walk;
}

abbrev pub decreases-loop-feature : goal.decreases-loop-feature
decreases-loop-feature l = length l.walk
