use Rattle.std.proofs.Common.{◌≡◌, ◌+◌, length}
use Rattle.cad_lookup.specs.Ways.{how_many}
use Rattle.cad_layer.specs.Segments.{joined}
use Rattle.cad_layer.proofs.summing.count_all.Given as goal

abbrev pub invariant-loop-segment : goal.invariant-loop-segment
invariant-loop-segment g l = record {
  so_far : how_many (g.T.Criterion.passes l.criterion) (joined l.segments) ≡ l.count + how_many (g.T.Criterion.passes l.criterion) (joined l.rest);
}

abbrev pub decreases-loop-segment : goal.decreases-loop-segment
decreases-loop-segment g l = length l.rest
