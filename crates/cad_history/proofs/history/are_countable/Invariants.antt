use Rattle.std.proofs.Common.{◌≡◌, ◌+◌, ◌≤◌, length}
use Rattle.cad_history.specs.Rows.{earlier_count, row_count}
use Rattle.cad_history.specs.Lent.{rows_of}
use Rattle.cad_history.proofs.history.are_countable.Given as goal

abbrev pub invariant-loop-layer : goal.invariant-loop-layer
invariant-loop-layer l = record {
  sum : l.count + earlier_count l.rest ≡ row_count (rows_of l.fn.newest l.fn.earlier);
  few : l.count ≤ 18446744073709551615;
}

abbrev pub decreases-loop-layer : goal.decreases-loop-layer
decreases-loop-layer l = length l.rest
