use Rattle.std.proofs.Common.{◌≡◌, ◌++◌, length}
use Rattle.cad_layer.proofs.merging.push_all.Given as goal

abbrev pub invariant-loop-feature : goal.invariant-loop-feature
invariant-loop-feature l = record {
  so_far : l.initial.all.items ++ l.fn.walk ≡ l.all.items ++ l.walk;
}

abbrev pub decreases-loop-feature : goal.decreases-loop-feature
decreases-loop-feature l = length l.walk
