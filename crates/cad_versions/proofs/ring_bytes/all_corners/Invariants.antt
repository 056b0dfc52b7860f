use Rattle.std.proofs.Common.{◌≡◌, ◌++◌, length}
use Rattle.cad_versions.specs.ShapeBytes.{corners_bytes}
use Rattle.cad_versions.proofs.ring_bytes.all_corners.Given as goal

abbrev pub invariant-loop-rest : goal.invariant-loop-rest
invariant-loop-rest l = l.bytes ≡ corners_bytes l.corners.items ++ l.rest

abbrev pub decreases-loop-rest : goal.decreases-loop-rest
decreases-loop-rest l = length l.rest
