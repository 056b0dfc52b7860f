use Rattle.std.proofs.Common.{◌↔◌, drop}
use Rattle.cad_shape.specs.Polygons.{rings_corners}
use Rattle.cad_shape.specs.Shapes.{SomeIn, lent_shape}
use Rattle.cad_shape.proofs.relation.some_ring_in.Given as goal

abbrev pub invariant-loop-ring : goal.invariant-loop-ring
invariant-loop-ring l = SomeIn (rings_corners l.rings) (lent_shape l.shape) ↔ SomeIn (rings_corners (drop l.ring-index l.rings)) (lent_shape l.shape)
