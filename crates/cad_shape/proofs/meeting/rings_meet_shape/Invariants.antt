use Rattle.std.proofs.Common.{◌↔◌, drop}
use Rattle.cad_shape.specs.Polygons.{rings_edges}
use Rattle.cad_shape.specs.Regions.{SomeMeet}
use Rattle.cad_shape.specs.Shapes.{lent_shape, shape_edges}
use Rattle.cad_shape.proofs.meeting.rings_meet_shape.Given as goal

abbrev pub invariant-loop-ring : goal.invariant-loop-ring
invariant-loop-ring l = SomeMeet (rings_edges l.rings) (shape_edges (lent_shape l.shape)) ↔ SomeMeet (rings_edges (drop l.ring-index l.rings)) (shape_edges (lent_shape l.shape))
