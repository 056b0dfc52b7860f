use Rattle.std.proofs.Common.{◌≡◌, ◌++◌, map}
use Rattle.std.specs.Vec.Iter.{into_iter_items}
use Rattle.cad_history.specs.inner.Ending.{begun}
use Rattle.cad_history.proofs.ending.all_begun.Given as goal

abbrev pub invariant-loop-feature : goal.invariant-loop-feature
invariant-loop-feature l = record {
  rest : l.fn.features.items ≡ l.yielded ++ into_iter_items l.feature-iterator;
  so_far : l.all.items ≡ map (begun l.fn.revision) l.yielded;
}
