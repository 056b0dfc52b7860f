use Rattle.std.proofs.Common.{◌≡◌, ◌++◌, length}
use Rattle.cad_layer.specs.Walks.{all_in, IsInOrder}
use Rattle.cad_layer.proofs.adding.with_later.Given as goal

abbrev pub invariant-loop-next : goal.invariant-loop-next
invariant-loop-next l = record {
  so_far : all_in l.earlier l.later ≡ l.all.items ++ all_in l.both.earlier.now l.both.later.now;
  order : IsInOrder l.both.earlier.now l.both.later.now;
}

abbrev pub decreases-loop-next : goal.decreases-loop-next
decreases-loop-next l = length (all_in l.both.earlier.now l.both.later.now)
