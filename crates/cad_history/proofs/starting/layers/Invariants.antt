use Rattle.std.proofs.Common.{◌≡◌, ◌++◌, map}
use Rattle.std.specs.Vec.Iter.{into_iter_items}
use Rattle.cad_history.specs.inner.Starting.{items_in, layers_of}
use Rattle.cad_history.proofs.starting.layers.Given as goal

abbrev pub invariant-loop-list : goal.invariant-loop-list
invariant-loop-list l = record {
  rest : l.fn.lists.items ≡ l.yielded ++ into_iter_items l.list-iterator;
  so_far : l.layers.items ≡ layers_of l.collection (map items_in l.yielded);
}
