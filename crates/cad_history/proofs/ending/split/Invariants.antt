use Rattle.std.proofs.Common.{◌≡◌, ◌++◌}
use Rattle.std.specs.Vec.Iter.{into_iter_items}
use Rattle.cad_history.specs.inner.Ending.{absent_in, present_in}
use Rattle.cad_history.proofs.ending.split.Given as goal

abbrev pub invariant-loop-row : goal.invariant-loop-row
invariant-loop-row l = record {
  rest : l.fn.rows.items ≡ l.yielded ++ into_iter_items l.row-iterator;
  absent : l.absent.items ≡ absent_in l.layers l.yielded;
  present : l.present.items ≡ present_in l.layers l.yielded;
}
