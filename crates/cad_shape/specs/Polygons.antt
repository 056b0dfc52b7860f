-- Lists of rings that bound a region: the first is the exterior boundary, the others are holes (OGC 06-103r4, 6.1.11, `Polygon`).
use Rattle.std.specs.Prelude.{ℕ, ◌<◌, ◌≤◌, List, [], ◌∷◌, ◌++◌, length, map, slice_index_or}
use Rattle.cad_shape.specs.declared.point.Point.{Point}
use Rattle.cad_shape.specs.declared.ring.Ring.{Ring}
use Rattle.cad_shape.specs.Edges.{Edge, AnyOf, edges_of}
use Rattle.cad_shape.specs.Regions.{IsInRegion}
use Rattle.cad_shape.specs.Rings.{corners_of}

-- the corners of all rings, in order
abbrev pub rings_corners : List Ring → List Point
rings_corners [] = []
rings_corners (r ∷ rs) = corners_of r ++ rings_corners rs

-- the edges of all rings, in order
abbrev pub rings_edges : List Ring → List Edge
rings_edges [] = []
rings_edges (r ∷ rs) = edges_of (corners_of r) ++ rings_edges rs

-- the corners of ring i; ring 0 is the exterior boundary
abbrev pub ring_at : List Ring → ℕ → List Point
ring_at rings i = slice_index_or (map corners_of rings) i []

-- some corner does not lie in the closed region of the ring through the outer corners
abbrev pub ReachesOut : List Point → List Point → Type 0
ReachesOut outer corners = AnyOf (λ c. ¬ (IsInRegion c (edges_of outer))) corners

-- ring i is not in the closed region of ring 0
abbrev pub IsOutside : List Ring → ℕ → Type 0
IsOutside rings i = ReachesOut (ring_at rings 0) (ring_at rings i)

-- at most 100 rings, and at most 1,000 corners together (own profile)
abbrev pub AreFew : List Ring → Type 0
AreFew rings = (length rings ≤ 100) × (length (rings_corners rings) ≤ 1000)

-- all holes lie in the closed region of the exterior boundary
abbrev pub NoneOutside : List Ring → Type 0
NoneOutside rings = (i : ℕ) → i < length rings → ¬ (IsOutside rings i)

-- ring i is the first that is not in the closed region of ring 0
pub record IsFirstOutside (rings : List Ring) (i : ℕ) : Type 0 where
  pub within : i < length rings
  pub outside : IsOutside rings i
  pub first : (k : ℕ) → k < i → ¬ (IsOutside rings k)

-- the rings of a region, the exterior boundary first; holes may touch it and each other
pub record IsRegion (rings : List Ring) : Type 0 where
  pub some : 0 < length rings
  pub few : AreFew rings
  pub inside : NoneOutside rings
