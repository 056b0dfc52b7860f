use Rattle.std.proofs.Common.{◌≡◌, ◌++◌, length}
use Rattle.cad_versions.specs.ShapeBytes.{rings_bytes}
use Rattle.cad_versions.proofs.shape_bytes.all_rings.Given as goal

abbrev pub invariant-loop-rest : goal.invariant-loop-rest
invariant-loop-rest l = l.bytes ≡ rings_bytes l.rings.items ++ l.rest

abbrev pub decreases-loop-rest : goal.decreases-loop-rest
decreases-loop-rest l = length l.rest
