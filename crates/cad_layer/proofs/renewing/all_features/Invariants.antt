use Rattle.std.proofs.Common.{◌≡◌, ◌++◌, length}
use Rattle.cad_layer.specs.Segments.{joined}
use Rattle.cad_layer.proofs.renewing.all_features.Given as goal

abbrev pub invariant-loop-segment : goal.invariant-loop-segment
invariant-loop-segment l = record {
  so_far : joined l.segments ≡ l.all.items ++ joined l.rest;
}

abbrev pub decreases-loop-segment : goal.decreases-loop-segment
decreases-loop-segment l = length l.rest
