-- Rings, and why a list of corners is not a ring.
use Rattle.std.specs.Prelude.{◌≡◌, ℕ, ◌<◌, ◌≤◌, pos, List, length, codes}
use Rattle.std.proofs.Common.{ap₂, subst, arith}
use Rattle.std.specs.Coded.{le_prop}
use Rattle.cad_shape.specs.declared.point.Point.{Point}
use Rattle.cad_shape.specs.declared.ring.Ring.{Ring}
use Rattle.cad_shape.specs.declared.ring.RingFault.{RingFault}
use Rattle.cad_shape.specs.declared.ring.RingFault.TheVariants.{TooFew, TooMany, Crosses, Flat}
use Rattle.cad_shape.specs.Edges.{edges_of}
use Rattle.cad_shape.specs.Areas.{doubled_area}
use Rattle.cad_shape.specs.Crossings.{NoneCross, IsFirstCrossing}
use Rattle.cad_shape.specs.Outlines.{HasArea, IsCounted, IsRing}

-- the corners in order, the first not repeated at the end
abbrev pub corners_of : Ring → List Point
corners_of ring = ring.corners

-- the first fault of a list of corners, in this order: their number, no area, edges that share more than they may (own profile)
abbrev pub IsRingFault : List Point → RingFault → Type 0
IsRingFault corners TooFew = length corners < 3
IsRingFault corners TooMany = 1000 < length corners
IsRingFault corners Flat = IsCounted corners × (doubled_area (edges_of corners) ≡ pos 0)
IsRingFault corners (Crosses i j) = IsCounted corners × HasArea (edges_of corners) × IsFirstCrossing (edges_of corners) i j

-- the number and the name of a fault
abbrev pub fault_row : RingFault → ℕ × List ℕ
fault_row TooFew = (1, codes "TooFew")
fault_row TooMany = (2, codes "TooMany")
fault_row (Crosses i j) = (3, codes "Crosses")
fault_row Flat = (4, codes "Flat")

-- ---- what other crates cite of rings

-- corners with a fault are not those of a ring
pub no_ring : (corners : List Point) (fault : RingFault) → IsRingFault corners fault → ¬ (IsRing corners)
no_ring corners TooFew h ring = let c = ring.counted in absurd (omega arith)
no_ring corners TooMany h ring = let c = ring.counted in absurd (omega arith)
no_ring corners Flat h ring = ring.has_area h.1
no_ring corners (Crosses i j) h ring = ring.simple i j h.2.ordered h.2.within h.2.cross

-- the corners of a ring are a ring
pub ring_is : (ring : Ring) → IsRing (corners_of ring)
ring_is ring = record { counted = (ring.enough, ring.not_too_many); has_area = ring.has_area; simple = ring.simple }

area_prop : (corners : List Point) → IsProp (HasArea (edges_of corners))
area_prop corners = hlevel

simple_prop : (corners : List Point) → IsProp (NoneCross (edges_of corners))
simple_prop corners = hlevel

-- two rings of one list of corners are one value
pub same_ring : (a b : Ring) → corners_of a ≡ corners_of b → a ≡ b
same_ring a b e =
    subst (λ cs. (p : 3 ≤ length cs) (q : length cs ≤ 1000) (r : HasArea (edges_of cs)) (s : NoneCross (edges_of cs)) → a ≡ record { corners = cs; enough = p; not_too_many = q; has_area = r; simple = s }) e
    (λ p q r s. ap₂ (λ (u : (3 ≤ length a.corners) × (length a.corners ≤ 1000)) (v : HasArea (edges_of a.corners) × NoneCross (edges_of a.corners)).
    record { corners = a.corners; enough = u.0; not_too_many = u.1; has_area = v.0; simple = v.1 })
    (ap₂ (λ (p : 3 ≤ length a.corners) (q : length a.corners ≤ 1000). (p, q)) (le_prop a.enough p) (le_prop a.not_too_many q))
    (ap₂ (λ (r : HasArea (edges_of a.corners)) (s : NoneCross (edges_of a.corners)). (r, s)) (area_prop a.corners a.has_area r) (simple_prop a.corners a.simple s))) b.enough b.not_too_many b.has_area b.simple
