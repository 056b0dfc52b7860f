use Rattle.std.proofs.Common.{◌≡◌, ◌↔◌, ◌+◌, ◌%◌, if◌then◌else◌, drop}
use Rattle.cad_shape.specs.Polygons.{rings_edges}
use Rattle.cad_shape.specs.Regions.{crossings, IsOnSome}
use Rattle.cad_shape.proofs.location.location_by_rings.Given as goal

abbrev pub invariant-loop-ring : goal.invariant-loop-ring
invariant-loop-ring l =
    record {
      walked : IsOnSome l.point (rings_edges l.rings) ↔ IsOnSome l.point (rings_edges (drop l.ring-index l.rings));
      counted : (crossings l.point (rings_edges l.rings) + crossings l.point (rings_edges (drop l.ring-index l.rings)) + (if l.odd then 1 else 0)) % 2 ≡ 0;
    }
