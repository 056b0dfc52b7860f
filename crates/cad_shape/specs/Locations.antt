-- Where a point lies relative to the edges of a region (OGC 06-103r4, 6.1.15.1, interior, boundary and exterior).
use Rattle.std.specs.Prelude.{ℕ, nat_eq, if◌then◌else◌, ◌%◌, ◌≡◌, Bool, true, false, List}
use Rattle.cad_shape.specs.declared.point.Point.{Point}
use Rattle.cad_shape.specs.declared.location.Location.{Location}
use Rattle.cad_shape.specs.declared.location.Location.TheVariants.{Boundary, Interior, Exterior}
use Rattle.cad_shape.specs.Edges.{Edge}
use Rattle.cad_shape.specs.Regions.{IsOnSome, crossings}

-- t lies on one of the edges, or else an odd or an even number of them cross its height right of it
abbrev pub IsLocation : Point → List Edge → Location → Type 0
IsLocation t edges Boundary = IsOnSome t edges
IsLocation t edges Interior = ¬ (IsOnSome t edges) × (crossings t edges % 2 ≡ 1)
IsLocation t edges Exterior = ¬ (IsOnSome t edges) × (crossings t edges % 2 ≡ 0)

-- the location of a point on no edge, by how many edges cross its height right of it
abbrev pub location_of : ℕ → Location
location_of crossed = if nat_eq (crossed % 2) 1 then Interior else Exterior

-- in the closed region
abbrev pub is_taken_in : Location → Bool
is_taken_in Boundary = true
is_taken_in Interior = true
is_taken_in Exterior = false

-- in the region and on no edge
abbrev pub is_interior : Location → Bool
is_interior Boundary = false
is_interior Interior = true
is_interior Exterior = false
