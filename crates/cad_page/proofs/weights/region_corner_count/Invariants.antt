use Rattle.std.proofs.Common.{◌≡◌, ◌+◌, drop, length}
use Rattle.cad_shape.specs.Polygons.{rings_corners}
use Rattle.cad_shape.specs.RegionRings.{region_corners, rings_of}
use Rattle.cad_page.proofs.weights.region_corner_count.Given as goal

-- the corners so far and those of the rings that are left are all corners
abbrev pub invariant-loop-ring : goal.invariant-loop-ring
invariant-loop-ring l = l.count + length (rings_corners (drop l.ring-index (rings_of l.region))) ≡ length (region_corners l.region)
