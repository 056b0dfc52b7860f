-- Shapes and the least boxes that hold them.
use Rattle.std.proofs.Common.{◌↔◌, ◌≤ℤ◌, inl, inr, List, [], ◌∷◌, arith}
use Rattle.std.specs.List.{All, AllByRecursion}
use Rattle.std.proofs.lemmas.List.Elements.{All-from_recursion, recursion_from_All, All-head, All-weaker}
use Rattle.cad_shape.specs.Frames.{IsHeld, Covers, Overlap, IsLeastBounds, frame_corners}
use Rattle.cad_shape.specs.RegionRings.{rings_of, region_corners}
use Rattle.cad_shape.specs.Shapes.{shape_corners, shape_edges, IsIn, SomeIn, RegionsMeet, RegionMeets, Meets}
use Rattle.cad_shape.specs.declared.point.Point.{Point}
use Rattle.cad_shape.specs.declared.boxes.Bounds.{Bounds}
use Rattle.cad_shape.specs.declared.shape.Shape.{Shape}
use Rattle.cad_shape.specs.declared.shape.Shape.TheVariants.{Spot, Frame, Area}
use Rattle.cad_shape.proofs.Signs.{sums}
use Rattle.cad_shape.proofs.LeastBoxes.{held_more}
use Rattle.cad_shape.proofs.Overlaps.{AreHeld, edges_held, rings_edges_held, edges_overlap}
use Rattle.cad_shape.proofs.RegionLemmas.{in_rings_held}

-- a box is the least that holds its corners
pub frame_least : (b : Bounds) → IsLeastBounds b (frame_corners b)
frame_least b =
    let w = b.width.2 in
    let h = b.height.2 in
    let low : b.x_min ≤ℤ b.x_min = omega (arith, sums) in
    let right : b.x_max ≤ℤ b.x_max = omega (arith, sums) in
    let bottom : b.y_min ≤ℤ b.y_min = omega (arith, sums) in
    let top : b.y_max ≤ℤ b.y_max = omega (arith, sums) in
    record {
      holds = All-from_recursion (IsHeld b) (frame_corners b) (((low, w), (bottom, h)), (((w, right), (bottom, h)), (((w, right), (h, top)), (((low, w), (h, top)), tt))));
      least = λ other h.
          let k = recursion_from_All (IsHeld other) (frame_corners b) h in
          ((k.0.0.0, k.1.1.0.0.1), (k.0.1.0, k.1.1.0.1.1));
    }

-- a box that holds all corners covers the least one that does
pub framed : (f g : Bounds) (corners : List Point) → IsLeastBounds f corners → Covers g f ↔ All (IsHeld g) corners
framed f g corners l = (
  λ h. All-weaker (IsHeld f) (IsHeld g) (λ p k. held_more f g p h k) corners l.holds,
  λ h. l.least g h,
)

-- a point in a shape lies in its bounds
pub in_held : (t : Point) (a : Shape) (f : Bounds) → IsLeastBounds f (shape_corners a) → IsIn t a → IsHeld f t
in_held t (Spot p) f l h = let k = All-head (IsHeld f) p [] l.holds in ((omega (arith, sums), omega (arith, sums)), (omega (arith, sums), omega (arith, sums)))
in_held t (Frame b) f l h = held_more b f t ((frame_least b).least f l.holds) h
in_held t (Area region) f l h = in_rings_held f t (rings_of region) l.holds h

shared_point : (f g : Bounds) (t : Point) → IsHeld f t → IsHeld g t → Overlap f g
shared_point f g t h k = ((omega (arith, sums), omega (arith, sums)), (omega (arith, sums), omega (arith, sums)))

some_held : (f g : Bounds) (b : Shape) → IsLeastBounds g (shape_corners b) → (points : List Point) → AllByRecursion (IsHeld f) points → SomeIn points b → Overlap f g
some_held f g b l [] h m = absurd m
some_held f g b l (p ∷ ps) h (inl m) = shared_point f g p h.0 (in_held p b g l m)
some_held f g b l (p ∷ ps) h (inr m) = some_held f g b l ps h.1 m

turned : (f g : Bounds) → Overlap f g → Overlap g f
turned f g h = ((h.0.1, h.0.0), (h.1.1, h.1.0))

-- the edges of a shape in a box that holds its corners
shape_edges_held : (b : Bounds) (shape : Shape) → All (IsHeld b) (shape_corners shape) → AreHeld b (shape_edges shape)
shape_edges_held b (Spot p) h = tt
shape_edges_held b (Frame f) h = edges_held b (frame_corners f) (recursion_from_All (IsHeld b) (frame_corners f) h)
shape_edges_held b (Area region) h = rings_edges_held b (rings_of region) (recursion_from_All (IsHeld b) (region_corners region) h)

regions_overlap : (a b : Shape) (f g : Bounds) → IsLeastBounds f (shape_corners a) → IsLeastBounds g (shape_corners b) → RegionsMeet a b → Overlap f g
regions_overlap a b f g k l (inl m) = edges_overlap f g (shape_edges a) (shape_edges b) (shape_edges_held f a k.holds) (shape_edges_held g b l.holds) m
regions_overlap a b f g k l (inr (inl m)) = some_held f g b l (shape_corners a) (recursion_from_All (IsHeld f) (shape_corners a) k.holds) m
regions_overlap a b f g k l (inr (inr m)) = turned g f (some_held g f a k (shape_corners b) (recursion_from_All (IsHeld g) (shape_corners b) l.holds) m)

region_overlaps : (a b : Shape) (f g : Bounds) → IsLeastBounds f (shape_corners a) → IsLeastBounds g (shape_corners b) → RegionMeets a b → Overlap f g
region_overlaps a (Spot q) f g k l m = shared_point f g q (in_held q a f k m) (All-head (IsHeld g) q [] l.holds)
region_overlaps a (Frame b) f g k l m = regions_overlap a (Frame b) f g k l m
region_overlaps a (Area s) f g k l m = regions_overlap a (Area s) f g k l m

-- shapes that meet have bounds that overlap
pub meets_overlap : (a b : Shape) (f g : Bounds) → IsLeastBounds f (shape_corners a) → IsLeastBounds g (shape_corners b) → Meets a b → Overlap f g
meets_overlap (Spot p) b f g k l m = shared_point f g p (All-head (IsHeld f) p [] k.holds) (in_held p b g l m)
meets_overlap (Frame c) b f g k l m = region_overlaps (Frame c) b f g k l m
meets_overlap (Area r) b f g k l m = region_overlaps (Area r) b f g k l m
