-- Regions, and why a list of rings is not a region.
use Rattle.std.specs.Prelude.{◌≡◌, ℕ, ◌<◌, ◌≤◌, ◌⊎◌, List, length, codes}
use Rattle.std.proofs.Common.{ap₂, ⊎_elim, subst, arith}
use Rattle.std.specs.Coded.{le_prop}
use Rattle.cad_shape.specs.declared.point.Point.{Point}
use Rattle.cad_shape.specs.declared.ring.Ring.{Ring}
use Rattle.cad_shape.specs.declared.polygon.Region.{Region}
use Rattle.cad_shape.specs.declared.polygon.RegionFault.{RegionFault}
use Rattle.cad_shape.specs.declared.polygon.RegionFault.TheVariants.{NoRing, TooMany, Outside}
use Rattle.cad_shape.specs.Edges.{Edge}
use Rattle.cad_shape.specs.Polygons.{rings_corners, rings_edges, ring_at, AreFew, NoneOutside, IsFirstOutside, IsRegion}

-- the rings in order, the exterior boundary first
abbrev pub rings_of : Region → List Ring
rings_of region = region.rings

-- the corners of the exterior boundary
abbrev pub outer_corners : Region → List Point
outer_corners region = ring_at (rings_of region) 0

-- the corners of all rings, in order
abbrev pub region_corners : Region → List Point
region_corners region = rings_corners (rings_of region)

-- the edges of all rings, in order
abbrev pub region_edges : Region → List Edge
region_edges region = rings_edges (rings_of region)

-- the first fault of a list of rings, in this order: no ring, too many, one that is not in the exterior boundary (own profile)
abbrev pub IsRegionFault : List Ring → RegionFault → Type 0
IsRegionFault rings NoRing = length rings ≡ 0
IsRegionFault rings TooMany = (100 < length rings) ⊎ (1000 < length (rings_corners rings))
IsRegionFault rings (Outside i) = AreFew rings × IsFirstOutside rings i

-- the number and the name of a fault
abbrev pub region_fault_row : RegionFault → ℕ × List ℕ
region_fault_row NoRing = (1, codes "NoRing")
region_fault_row TooMany = (2, codes "TooMany")
region_fault_row (Outside i) = (3, codes "Outside")

-- ---- what other crates cite of regions

-- rings with a fault are not those of a region
pub no_region : (rings : List Ring) (fault : RegionFault) → IsRegionFault rings fault → ¬ (IsRegion rings)
no_region rings NoRing h region = let s = region.some in absurd (omega arith)
no_region rings TooMany h region = let f = region.few in ⊎_elim (λ k. absurd (omega arith)) (λ k. absurd (omega arith)) h
no_region rings (Outside i) h region = region.inside i h.1.within h.1.outside

-- the rings of a region are a region
pub region_is : (region : Region) → IsRegion (rings_of region)
region_is region = record { some = region.some; few = (region.not_too_many_rings, region.not_too_many_corners); inside = region.inside }

inside_prop : (rings : List Ring) → IsProp (NoneOutside rings)
inside_prop rings = hlevel

-- two regions of one list of rings are one value
pub same_region : (a b : Region) → rings_of a ≡ rings_of b → a ≡ b
same_region a b e =
    subst (λ rs. (p : 0 < length rs) (q : length rs ≤ 100) (r : length (rings_corners rs) ≤ 1000) (s : NoneOutside rs) → a ≡ record { rings = rs; some = p; not_too_many_rings = q; not_too_many_corners = r; inside = s }) e
    (λ p q r s. ap₂ (λ (u : (0 < length a.rings) × (length a.rings ≤ 100)) (v : (length (rings_corners a.rings) ≤ 1000) × NoneOutside a.rings).
    record { rings = a.rings; some = u.0; not_too_many_rings = u.1; not_too_many_corners = v.0; inside = v.1 })
    (ap₂ (λ (p : 0 < length a.rings) (q : length a.rings ≤ 100). (p, q)) (le_prop a.some p) (le_prop a.not_too_many_rings q))
    (ap₂ (λ (r : length (rings_corners a.rings) ≤ 1000) (s : NoneOutside a.rings). (r, s)) (le_prop a.not_too_many_corners r) (inside_prop a.rings a.inside s))) b.some b.not_too_many_rings b.not_too_many_corners b.inside
