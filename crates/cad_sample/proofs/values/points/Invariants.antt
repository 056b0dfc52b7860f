use Rattle.std.proofs.Common.{◌≡◌, map, take}
use Rattle.cad_sample.specs.Instructions.{coordinates_of}
use Rattle.cad_sample.proofs.values.points.Given as goal

abbrev pub invariant-loop-x : goal.invariant-loop-x
invariant-loop-x l = map coordinates_of l.points.items ≡ take l.x-index l.corners
