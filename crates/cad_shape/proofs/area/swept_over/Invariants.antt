use Rattle.std.proofs.Common.{◌≡◌, ◌*◌, pos, neg_ℤ, ◌+ℤ◌, ◌≤ℤ◌, drop}
use Rattle.cad_shape.specs.Areas.{doubled_area}
use Rattle.cad_shape.specs.Edges.{walk}
use Rattle.cad_shape.proofs.area.swept_over.Given as goal

abbrev pub invariant-loop-corner : goal.invariant-loop-corner
invariant-loop-corner l =
    record {
      summed : doubled_area (walk l.fn.start l.corners) ≡ l.sum +ℤ doubled_area (walk l.from (drop l.corner-index l.corners));
      low : neg_ℤ (pos (80000000000000000000000 * l.corner-index)) ≤ℤ l.sum;
      high : l.sum ≤ℤ pos (80000000000000000000000 * l.corner-index);
    }
