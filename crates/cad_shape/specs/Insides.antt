-- Rings round a point.
use Rattle.std.specs.Prelude.{ℕ, ◌+◌, if◌then◌else◌, List, [], ◌∷◌, All}
use Rattle.cad_shape.specs.declared.point.Point.{Point}
use Rattle.cad_shape.specs.declared.ring.Ring.{Ring}
use Rattle.cad_shape.specs.Edges.{edges_of}
use Rattle.cad_shape.specs.Regions.{IsOnSome, IsInRegion}
use Rattle.cad_shape.specs.Rings.{corners_of}
use Rattle.cad_shape.specs.Tests.{is_in_region}

-- how many of the rings have t in their closed regions
abbrev pub rings_around : Point → List Ring → ℕ
rings_around t [] = 0
rings_around t (r ∷ rs) = (if is_in_region t (edges_of (corners_of r)) then 1 else 0) + rings_around t rs

-- t lies in the region of the ring and on no edge of it
abbrev pub IsInsideRing : Point → Ring → Type 0
IsInsideRing t ring = IsInRegion t (edges_of (corners_of ring)) × ¬ (IsOnSome t (edges_of (corners_of ring)))

-- t lies in the closed region of none of the rings
abbrev pub IsInNone : Point → List Ring → Type 0
IsInNone t rings = All (λ r. ¬ (IsInRegion t (edges_of (corners_of r)))) rings
