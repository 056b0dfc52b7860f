use Rattle.std.proofs.Common.{◌≡◌, ◌↔◌, ◌+◌, ◌≤◌, drop}
use Rattle.cad_shape.specs.Edges.{walk}
use Rattle.cad_shape.specs.Regions.{crossings, IsOnSome}
use Rattle.cad_shape.proofs.region.location_by_walk.Given as goal

abbrev pub invariant-loop-corner : goal.invariant-loop-corner
invariant-loop-corner l =
    record {
      few : l.crossed ≤ l.corner-index;
      counted : crossings l.point (walk l.fn.start l.corners) ≡ l.crossed + crossings l.point (walk l.from (drop l.corner-index l.corners));
      walked : IsOnSome l.point (walk l.fn.start l.corners) ↔ IsOnSome l.point (walk l.from (drop l.corner-index l.corners));
    }
