-- How shapes are stored (own profile).
use Rattle.std.specs.Prelude.{◌≡◌, ◌⊎◌, ℕ, ℤ, List, [], ◌∷◌, ◌++◌, length}
use Rattle.std.specs.Int.{to_be_bytes, cast_unsigned, w16, w64}
use Rattle.cad_shape.specs.declared.point.Point.{Point}
use Rattle.cad_shape.specs.declared.ring.Ring.{Ring}
use Rattle.cad_shape.specs.declared.polygon.Region.{Region}
use Rattle.cad_shape.specs.Rings.{corners_of}
use Rattle.cad_shape.specs.RegionRings.{rings_of}

-- eight bytes of two's complement, the highest first
unfoldable pub coordinate_bytes : ℤ → List ℕ
coordinate_bytes n = to_be_bytes w64 (cast_unsigned w64 n)

abbrev pub corner_bytes : Point → List ℕ
corner_bytes corner = coordinate_bytes corner.x ++ coordinate_bytes corner.y

abbrev pub corners_bytes : List Point → List ℕ
corners_bytes [] = []
corners_bytes (corner ∷ corners) = corner_bytes corner ++ corners_bytes corners

-- the number of corners in two bytes, the highest first, and the corners
abbrev pub ring_bytes : Ring → List ℕ
ring_bytes ring = to_be_bytes w16 (length (corners_of ring)) ++ corners_bytes (corners_of ring)

abbrev pub rings_bytes : List Ring → List ℕ
rings_bytes [] = []
rings_bytes (ring ∷ rings) = ring_bytes ring ++ rings_bytes rings

-- the number of rings in two bytes, the highest first, and the rings
abbrev pub counted_rings_bytes : List Ring → List ℕ
counted_rings_bytes rings = to_be_bytes w16 (length rings) ++ rings_bytes rings

-- a shape as it is written: the byte 2, and its rings
abbrev pub shape_bytes : Region → List ℕ
shape_bytes region = 2 ∷ counted_rings_bytes (rings_of region)

-- the bytes are one ring, and the shape is its region: it has no holes
abbrev pub IsOneRingOf : List ℕ → Region → Type 0
IsOneRingOf bytes region = (ring : Ring) × (rings_of region ≡ ring ∷ []) × (bytes ≡ ring_bytes ring)

abbrev pub AreRingsOf : List ℕ → Region → Type 0
AreRingsOf bytes region = bytes ≡ counted_rings_bytes (rings_of region)

-- the bytes encode the shape: the first of them names the form of the others. Both forms may be stored in one register; the form with one
-- ring is only read, and no longer written
abbrev pub IsShapeOf : List ℕ → Region → Type 0
IsShapeOf [] region = ⊥
IsShapeOf (form ∷ bytes) region = ((form ≡ 1) × IsOneRingOf bytes region) ⊎ ((form ≡ 2) × AreRingsOf bytes region)
