use Rattle.std.proofs.Common.{◌↔◌, drop}
use Rattle.cad_shape.specs.Edges.{edges_of}
use Rattle.cad_shape.specs.Polygons.{rings_edges}
use Rattle.cad_shape.specs.Regions.{SomeMeet}
use Rattle.cad_shape.proofs.meeting.corners_meet_rings.Given as goal

abbrev pub invariant-loop-ring : goal.invariant-loop-ring
invariant-loop-ring l = SomeMeet (edges_of l.corners) (rings_edges l.rings) ↔ SomeMeet (edges_of l.corners) (rings_edges (drop l.ring-index l.rings))
