use Rattle.std.proofs.Common.{ℕ, ◌<◌}
use Rattle.cad_shape.specs.Polygons.{IsOutside}
use Rattle.cad_shape.proofs.polygon.first_outside.Given as goal

abbrev pub invariant-loop-i : goal.invariant-loop-i
invariant-loop-i l = (k : ℕ) → k < l.i → ¬ (IsOutside l.rings k)
