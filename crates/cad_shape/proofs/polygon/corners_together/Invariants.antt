use Rattle.std.proofs.Common.{◌≡◌, ◌+◌, ◌*◌, ◌≤◌, length, drop}
use Rattle.cad_shape.specs.Polygons.{rings_corners}
use Rattle.cad_shape.proofs.polygon.corners_together.Given as goal

abbrev pub invariant-loop-ring : goal.invariant-loop-ring
invariant-loop-ring l =
    record {
      few : l.count ≤ 1000 * l.ring-index;
      counted : length (rings_corners l.rings) ≡ l.count + length (rings_corners (drop l.ring-index l.rings));
    }
