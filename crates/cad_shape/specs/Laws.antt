-- What holds of shapes, beyond what each call says.
use Rattle.std.specs.Prelude.{◌+◌, ◌%◌, ◌≡◌, ◌↔◌, IsTrue, List, [], ◌∷◌, ◌++◌, map, All}
use mathlib.Core.List.{reverse}
use Rattle.cad_shape.specs.declared.point.Point.{Point}
use Rattle.cad_shape.specs.declared.boxes.Bounds.{Bounds}
use Rattle.cad_shape.specs.declared.ring.Ring.{Ring}
use Rattle.cad_shape.specs.declared.ring.RingFault.{RingFault}
use Rattle.cad_shape.specs.declared.polygon.Region.{Region}
use Rattle.cad_shape.specs.declared.polygon.RegionFault.{RegionFault}
use Rattle.cad_shape.specs.declared.shape.Shape.{Shape}
use Rattle.cad_shape.specs.Edges.{Edge, AnyOf, edges_of}
use Rattle.cad_shape.specs.Frames.{IsHeld, Overlap, IsLeastBounds}
use Rattle.cad_shape.specs.Outlines.{IsRing}
use Rattle.cad_shape.specs.PlainRings.{coordinates, is_plain_ring}
use Rattle.cad_shape.specs.Polygons.{rings_edges, IsRegion}
use Rattle.cad_shape.specs.RegionRings.{rings_of, region_edges, IsRegionFault}
use Rattle.cad_shape.specs.Regions.{CrossesRight, passes, crossings, IsOnSome, IsInRegion}
use Rattle.cad_shape.specs.Rings.{corners_of, IsRingFault}
use Rattle.cad_shape.specs.Insides.{rings_around, IsInsideRing, IsInNone}
use Rattle.cad_shape.specs.Segments.{Meet}
use Rattle.cad_shape.specs.Shapes.{shape_corners, IsIn, Meets, IsWithin}
use Rattle.cad_shape.specs.Tests.{shapes_meet, shape_within}

-- whether segments meet does not depend on which is named first, nor on the end from which each is named
abbrev pub SegmentsMeetEitherWay : Type 0
SegmentsMeetEitherWay = (p q r s : Point) → Meet p q r s → Meet r s p q × Meet q p r s

-- an edge counts for a point if and only if it crosses the point's height right of it
abbrev pub CountedEdgesCross : Type 0
CountedEdgesCross = (t p q : Point) → IsTrue (passes t p q) ↔ CrossesRight t p q

-- a region stays the same if one of its rings, between other edges, begins with another of its corners
abbrev pub TurningKeepsRegions : Type 0
TurningKeepsRegions = (t p : Point) (qs : List Point) (before after : List Edge) → IsInRegion t (before ++ edges_of (p ∷ qs) ++ after) ↔ IsInRegion t (before ++ edges_of (qs ++ p ∷ []) ++ after)

-- and if the corners of one of its rings are listed in the opposite order
abbrev pub OrderKeepsRegions : Type 0
OrderKeepsRegions = (t : Point) (corners : List Point) (before after : List Edge) → IsInRegion t (before ++ edges_of corners ++ after) ↔ IsInRegion t (before ++ edges_of (reverse corners) ++ after)

-- the number of edges of all rings that cross is the sum of those of each ring
abbrev pub CrossingsAddUp : Type 0
CrossingsAddUp = (t : Point) (ring : Ring) (rings : List Ring) → crossings t (rings_edges (ring ∷ rings)) ≡ crossings t (edges_of (corners_of ring)) + crossings t (rings_edges rings)

-- a region without holes is the region of its ring
abbrev pub OneRingIsTheRegion : Type 0
OneRingIsTheRegion = (t : Point) (region : Region) (ring : Ring) → rings_of region ≡ ring ∷ [] → IsInRegion t (region_edges region) ↔ IsInRegion t (edges_of (corners_of ring))

-- a point on an edge of any ring lies in the region
abbrev pub EdgesAreTakenIn : Type 0
EdgesAreTakenIn = (t : Point) (region : Region) → AnyOf (λ ring. IsOnSome t (edges_of (corners_of ring))) (rings_of region) → IsInRegion t (region_edges region)

-- a point on no edge lies in a region if and only if an odd number of the rings have it in their regions
abbrev pub OddlyManyRingsHold : Type 0
OddlyManyRingsHold = (t : Point) (region : Region) → ¬ (IsOnSome t (region_edges region)) → IsInRegion t (region_edges region) ↔ (rings_around t (rings_of region) % 2 ≡ 1)

-- a point inside the outer ring and one hole, and in no other hole, does not lie in the region
abbrev pub HolesAreLeftOut : Type 0
HolesAreLeftOut =
    (t : Point) (region : Region) (outer hole : Ring) (before after : List Ring) → rings_of region ≡ outer ∷ (before ++ hole ∷ after)
    → IsInsideRing t outer → IsInsideRing t hole → IsInNone t before → IsInNone t after → ¬ (IsInRegion t (region_edges region))

-- corners that pass the plain test are a ring: so a ring that is written out in code is made without a fault
abbrev pub PlainRingsAreRings : Type 0
PlainRingsAreRings = (corners : List Point) → IsTrue (is_plain_ring (map coordinates corners)) → IsRing corners

-- a list of corners has at most one fault, and with a fault it is no ring
abbrev pub OneFaultAlone : Type 0
OneFaultAlone = (corners : List Point) (fault : RingFault) → IsRingFault corners fault → ¬ (IsRing corners) × ((other : RingFault) → IsRingFault corners other → other ≡ fault)

-- two rings of one list of corners are one value
abbrev pub CornersMakeTheRing : Type 0
CornersMakeTheRing = (a b : Ring) → corners_of a ≡ corners_of b → a ≡ b

-- a list of rings has at most one fault, and with a fault it is no region
abbrev pub OneRegionFaultAlone : Type 0
OneRegionFaultAlone = (rings : List Ring) (fault : RegionFault) → IsRegionFault rings fault → ¬ (IsRegion rings) × ((other : RegionFault) → IsRegionFault rings other → other ≡ fault)

-- two regions of one list of rings are one value
abbrev pub RingsMakeTheRegion : Type 0
RingsMakeTheRegion = (a b : Region) → rings_of a ≡ rings_of b → a ≡ b

-- corners have one least box
abbrev pub OneLeastBox : Type 0
OneLeastBox = (a b : Bounds) (corners : List Point) → IsLeastBounds a corners → IsLeastBounds b corners → a ≡ b

-- whether shapes meet does not depend on which is named first
abbrev pub MeetingIsSymmetric : Type 0
MeetingIsSymmetric = (a b : Shape) → Meets a b → Meets b a

-- the corners of a shape lie in it
abbrev pub CornersLieInside : Type 0
CornersLieInside = (shape : Shape) → All (λ corner. IsIn corner shape) (shape_corners shape)

-- a point in a shape lies in its bounds
abbrev pub BoundsHoldTheShape : Type 0
BoundsHoldTheShape = (t : Point) (shape : Shape) (bounds : Bounds) → IsLeastBounds bounds (shape_corners shape) → IsIn t shape → IsHeld bounds t

-- shapes that meet have bounds that overlap
abbrev pub BoundsOverlap : Type 0
BoundsOverlap = (a b : Shape) (f g : Bounds) → IsLeastBounds f (shape_corners a) → IsLeastBounds g (shape_corners b) → Meets a b → Overlap f g

-- a shape within another meets it
abbrev pub WithinMeets : Type 0
WithinMeets = (a b : Shape) → IsWithin a b → Meets a b

-- the tests of shapes are true if and only if their relations hold
abbrev pub TestsTell : Type 0
TestsTell = (a b : Shape) → (IsTrue (shapes_meet a b) ↔ Meets a b) × (IsTrue (shape_within a b) ↔ IsWithin a b)
