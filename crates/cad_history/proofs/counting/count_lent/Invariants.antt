use Rattle.std.proofs.Common.{◌≡◌, ◌+◌, length}
use Rattle.cad_history.specs.inner.Counted.{is_counted}
use Rattle.cad_history.proofs.CountLemmas.{counted_in, whole_count}
use Rattle.cad_history.proofs.counting.count_lent.Given as goal

abbrev pub invariant-loop-layer : goal.invariant-loop-layer
invariant-loop-layer l = record {
  so_far : l.count + counted_in (is_counted l.counted) l.past.revision l.rest ≡ whole_count (is_counted l.counted) l.fn.newest l.past;
}

abbrev pub decreases-loop-layer : goal.decreases-loop-layer
decreases-loop-layer l = length l.rest
