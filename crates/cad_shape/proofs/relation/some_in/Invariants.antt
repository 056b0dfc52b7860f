use Rattle.std.proofs.Common.{◌↔◌, drop}
use Rattle.cad_shape.specs.Shapes.{SomeIn, lent_shape}
use Rattle.cad_shape.proofs.relation.some_in.Given as goal

abbrev pub invariant-loop-point : goal.invariant-loop-point
invariant-loop-point l = SomeIn l.points (lent_shape l.shape) ↔ SomeIn (drop l.point-index l.points) (lent_shape l.shape)
