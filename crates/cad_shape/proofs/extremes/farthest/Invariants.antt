use Rattle.std.proofs.Common.{◌<◌, length, take}
use Rattle.std.specs.List.{All}
use Rattle.cad_shape.specs.inner.Extremes.{IsFarther, point_at}
use Rattle.cad_shape.proofs.extremes.farthest.Given as goal

abbrev pub invariant-loop-i : goal.invariant-loop-i
invariant-loop-i l =
    record {
      within : l.place < length l.points;
      none : All (λ p. ¬ (IsFarther l.way p (point_at l.points l.place))) (take l.i l.points);
    }
