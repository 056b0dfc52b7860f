use Rattle.std.proofs.Common.{◌≡◌, ◌+◌, length}
use Rattle.cad_layer.specs.Segments.{joined}
use Rattle.cad_layer.proofs.summing.length_of_all.Given as goal

abbrev pub invariant-loop-segment : goal.invariant-loop-segment
invariant-loop-segment l = record {
  so_far : length (joined l.segments) ≡ l.count + length (joined l.rest);
}

abbrev pub decreases-loop-segment : goal.decreases-loop-segment
decreases-loop-segment l = length l.rest
