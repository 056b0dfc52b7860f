use Rattle.std.proofs.Common.{◌≡◌, ◌∷◌, ◌++◌, length, take}
use Rattle.std.specs.Int.{to_be_bytes, w16}
use Rattle.cad_versions.specs.ShapeBytes.{rings_bytes}
use Rattle.cad_versions.proofs.shape_bytes.write_shape.Given as goal

abbrev pub invariant-loop-ring : goal.invariant-loop-ring
invariant-loop-ring l = l.bytes.items ≡ (2 ∷ to_be_bytes w16 (length l.rings)) ++ rings_bytes (take l.ring-index l.rings)
