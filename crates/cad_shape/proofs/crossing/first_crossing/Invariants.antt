use Rattle.std.proofs.Common.{ℕ, ◌<◌, ◌≤◌, length}
use Rattle.cad_shape.specs.Edges.{edges_of}
use Rattle.cad_shape.specs.Crossings.{IsCrossing}
use Rattle.cad_shape.proofs.crossing.first_crossing.Given as goal

abbrev pub invariant-loop-i : goal.invariant-loop-i
invariant-loop-i l = (k m : ℕ) → k < l.i → k ≤ m → m < length l.corners → ¬ (IsCrossing (edges_of l.corners) k m)

abbrev pub invariant-loop-j : goal.invariant-loop-j
invariant-loop-j l =
    record {
      rows : (k m : ℕ) → k < l.i → k ≤ m → m < length l.corners → ¬ (IsCrossing (edges_of l.corners) k m);
      row : (m : ℕ) → l.i ≤ m → m < l.j → ¬ (IsCrossing (edges_of l.corners) l.i m);
    }
