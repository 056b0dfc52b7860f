use Rattle.std.proofs.Common.{◌↔◌, drop}
use Rattle.cad_shape.specs.Edges.{walk, edges_of}
use Rattle.cad_shape.specs.Regions.{SomeMeet}
use Rattle.cad_shape.proofs.meeting.walk_meets_ring.Given as goal

abbrev pub invariant-loop-corner : goal.invariant-loop-corner
invariant-loop-corner l = SomeMeet (walk l.fn.start l.corners) (edges_of l.ring) ↔ SomeMeet (walk l.from (drop l.corner-index l.corners)) (edges_of l.ring)
