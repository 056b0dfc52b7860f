-- Shapes: whether they share a point, and whether one lies within another (OGC 21-065r2, spatial functions; boundaries: own profile).
use Rattle.std.specs.Prelude.{◌≡◌, ◌⊎◌, Bool, true, false, List, [], ◌∷◌, All}
use Rattle.cad_shape.specs.declared.point.Point.{Point}
use Rattle.cad_shape.specs.declared.shape.Shape.{Shape}
use Rattle.cad_shape.specs.declared.shape.Shape.TheVariants.{Spot, Frame, Area}
use Rattle.cad_shape.specs.declared.shape.ShapeRef.{ShapeRef}
use Rattle.cad_shape.specs.declared.shape.ShapeRef.TheVariants as lent
use Rattle.cad_shape.specs.Edges.{Edge, AnyOf, edges_of}
use Rattle.cad_shape.specs.Frames.{IsHeld, frame_corners}
use Rattle.cad_shape.specs.Regions.{IsOnSome, IsInRegion, SomeMeet}
use Rattle.cad_shape.specs.RegionRings.{region_corners, region_edges}

-- the shape whose region is borrowed
abbrev pub lent_shape : ShapeRef → Shape
lent_shape (lent.Spot p) = Spot p
lent_shape (lent.Frame bounds) = Frame bounds
lent_shape (lent.Area region) = Area region.now

-- the corners of a shape, those of holes too
abbrev pub shape_corners : Shape → List Point
shape_corners (Spot p) = p ∷ []
shape_corners (Frame bounds) = frame_corners bounds
shape_corners (Area region) = region_corners region

-- the edges of a shape, those of holes too; those of a flat frame may have no length
abbrev pub shape_edges : Shape → List Edge
shape_edges (Spot p) = []
shape_edges (Frame bounds) = edges_of (frame_corners bounds)
shape_edges (Area region) = region_edges region

abbrev pub IsSamePoint : Point → Point → Type 0
IsSamePoint p q = (p.x ≡ q.x) × (p.y ≡ q.y)

-- t lies in the shape, including its boundary
abbrev pub IsIn : Point → Shape → Type 0
IsIn t (Spot p) = IsSamePoint t p
IsIn t (Frame bounds) = IsHeld bounds t
IsIn t (Area region) = IsInRegion t (region_edges region)

-- some of the points lies in the shape
abbrev pub SomeIn : List Point → Shape → Type 0
SomeIn points shape = AnyOf (λ p. IsIn p shape) points

-- some edges of the two regions share a point, or a corner of one lies in the other
abbrev pub RegionsMeet : Shape → Shape → Type 0
RegionsMeet a b = SomeMeet (shape_edges a) (shape_edges b) ⊎ (SomeIn (shape_corners a) b ⊎ SomeIn (shape_corners b) a)

-- the region a meets b
abbrev pub RegionMeets : Shape → Shape → Type 0
RegionMeets a (Spot q) = IsIn q a
RegionMeets a (Frame g) = RegionsMeet a (Frame g)
RegionMeets a (Area s) = RegionsMeet a (Area s)

-- the two shapes meet: a point lies in the other shape; or of two regions some edges share a point, or a corner of one lies in the other
abbrev pub Meets : Shape → Shape → Type 0
Meets (Spot p) b = IsIn p b
Meets (Frame f) b = RegionMeets (Frame f) b
Meets (Area r) b = RegionMeets (Area r) b

-- t lies in the shape and on no edge of it
abbrev pub IsInside : Point → Shape → Type 0
IsInside t shape = IsIn t shape × ¬ (IsOnSome t (shape_edges shape))

-- the shape is a frame that holds all these corners
abbrev pub AreFramed : List Point → Shape → Type 0
AreFramed corners (Spot p) = ⊥
AreFramed corners (Frame bounds) = All (IsHeld bounds) corners
AreFramed corners (Area region) = ⊥

-- the first shape lies within the second: a point inside it, a region in a frame that holds all its corners
abbrev pub IsWithin : Shape → Shape → Type 0
IsWithin (Spot p) b = IsInside p b
IsWithin (Frame f) b = AreFramed (shape_corners (Frame f)) b
IsWithin (Area r) b = AreFramed (shape_corners (Area r)) b

abbrev pub is_frame : Shape → Bool
is_frame (Spot p) = false
is_frame (Frame bounds) = true
is_frame (Area region) = false

-- whether the question of one shape within another is answered: for a point in any shape, for a region in a frame only
abbrev pub is_judged : Shape → Shape → Bool
is_judged (Spot p) b = true
is_judged (Frame f) b = is_frame b
is_judged (Area r) b = is_frame b
