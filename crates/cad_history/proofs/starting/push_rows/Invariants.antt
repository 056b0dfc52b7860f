use Rattle.std.proofs.Common.{◌≡◌, ◌≤◌, length, map}
use Rattle.std.specs.Vec.Iter.{into_iter_items, into_iter_len}
use Rattle.cad_history.specs.inner.Starting.{items_in, pushed_from}
use Rattle.cad_history.proofs.starting.push_rows.Given as goal

abbrev pub invariant-loop-row : goal.invariant-loop-row
invariant-loop-row l = record {
  left : into_iter_len l.row-iterator ≡ length (into_iter_items l.row-iterator);
  so_far : pushed_from 0 l.fn.rows.items (map items_in l.initial.lists.items) ≡ pushed_from l.at (into_iter_items l.row-iterator) (map items_in l.lists.items);
  within : l.at ≤ length l.lists.items;
}
