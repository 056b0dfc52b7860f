use Rattle.std.proofs.Common.{◌↔◌, drop}
use Rattle.cad_shape.specs.Polygons.{ReachesOut}
use Rattle.cad_shape.specs.Rings.{corners_of}
use Rattle.cad_shape.proofs.polygon.reaches_out.Given as goal

abbrev pub invariant-loop-corner : goal.invariant-loop-corner
invariant-loop-corner l = ReachesOut (corners_of l.outer) (corners_of l.ring) ↔ ReachesOut (corners_of l.outer) (drop l.corner-index l.corner-items)
