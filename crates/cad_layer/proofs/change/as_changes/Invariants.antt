use Rattle.std.proofs.Common.{◌≡◌, ◌++◌}
use Rattle.std.specs.Vec.Iter.{into_iter_items}
use Rattle.cad_layer.proofs.change.as_changes.Given as goal

abbrev pub invariant-loop-feature : goal.invariant-loop-feature
invariant-loop-feature l = record {
  rest : l.fn.features.items ≡ l.yielded ++ into_iter_items l.feature-iterator;
  so_far : l.changes.items ≡ l.yielded;
}
