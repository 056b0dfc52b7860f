use Rattle.std.proofs.Common.{◌≡◌, ◌++◌, length, take}
use Rattle.std.specs.Int.{to_be_bytes, w16}
use Rattle.cad_versions.specs.ShapeBytes.{corners_bytes}
use Rattle.cad_versions.proofs.ring_bytes.push_ring.Given as goal

abbrev pub invariant-loop-corner : goal.invariant-loop-corner
invariant-loop-corner l = l.bytes.items ≡ (l.fn.bytes.items ++ to_be_bytes w16 (length l.corners)) ++ corners_bytes (take l.corner-index l.corners)
