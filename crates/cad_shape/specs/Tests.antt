-- Whether shapes meet and whether one lies within another, as tests by signs of whole numbers. Laws say that each test is true if and only
-- if its relation holds.
use Rattle.std.specs.Prelude.{◌%◌, ◌==◌, ℤ, pos, ◌-ℤ◌, ◌*ℤ◌, int_lt, int_le, Bool, false, ◌&&◌, ◌||◌, not, if◌then◌else◌, List, Option, Some, None}
use Rattle.std.specs.List.{list_all, list_any}
use Rattle.std.specs.Ordering.{int_eq}
use Rattle.cad_shape.specs.declared.point.Point.{Point}
use Rattle.cad_shape.specs.declared.boxes.Bounds.{Bounds}
use Rattle.cad_shape.specs.declared.shape.Shape.{Shape}
use Rattle.cad_shape.specs.declared.shape.Shape.TheVariants.{Spot, Frame, Area}
use Rattle.cad_shape.specs.Edges.{Edge}
use Rattle.cad_shape.specs.Regions.{crossings}
use Rattle.cad_shape.specs.RegionRings.{region_edges}
use Rattle.cad_shape.specs.Segments.{turn}
use Rattle.cad_shape.specs.Shapes.{shape_corners, shape_edges, is_judged}

-- ---- segments

-- `AllBelow`
abbrev pub all_below : ℤ → ℤ → ℤ → ℤ → Bool
all_below a b c d = int_lt a c && (int_lt a d && (int_lt b c && int_lt b d))

-- `Apart`
abbrev pub apart : ℤ → ℤ → ℤ → ℤ → Bool
apart p q r s = all_below p q r s || all_below r s p q

-- `Straddle`
abbrev pub straddle : ℤ → ℤ → Bool
straddle f g = (int_le f (pos 0) && int_le (pos 0) g) || (int_le g (pos 0) && int_le (pos 0) f)

-- `Meet`: the segments are apart in no coordinate, and neither lies on one side of the other's line
abbrev pub segments_meet : Point → Point → Point → Point → Bool
segments_meet p q r s =
    (not (apart p.x q.x r.x s.x) && not (apart p.y q.y r.y s.y))
    && (straddle (turn p q r) (turn p q s) && straddle (turn r s p) (turn r s q))

-- `IsBetween`
abbrev pub is_between : ℤ → ℤ → ℤ → Bool
is_between a b n = (int_le a n && int_le n b) || (int_le b n && int_le n a)

-- `IsOn`
abbrev pub is_on : Point → Point → ℤ → ℤ → ℤ → Bool
is_on p q x y w =
    int_eq ((q.x -ℤ p.x) *ℤ (y -ℤ w *ℤ p.y)) ((q.y -ℤ p.y) *ℤ (x -ℤ w *ℤ p.x))
    && (is_between (w *ℤ p.x) (w *ℤ q.x) x && is_between (w *ℤ p.y) (w *ℤ q.y) y)

-- ---- points and regions

-- `IsOnSome`
abbrev pub is_on_some : Point → List Edge → Bool
is_on_some t edges = list_any (λ e. is_on e.from e.to t.x t.y (pos 1)) edges

-- `IsInRegion`
abbrev pub is_in_region : Point → List Edge → Bool
is_in_region t edges = is_on_some t edges || (crossings t edges % 2 == 1)

-- `IsHeld`
abbrev pub is_held : Bounds → Point → Bool
is_held bounds p = (int_le bounds.x_min p.x && int_le p.x bounds.x_max) && (int_le bounds.y_min p.y && int_le p.y bounds.y_max)

-- `IsIn`
abbrev pub is_in : Point → Shape → Bool
is_in t (Spot p) = int_eq t.x p.x && int_eq t.y p.y
is_in t (Frame bounds) = is_held bounds t
is_in t (Area region) = is_in_region t (region_edges region)

-- ---- shapes

-- `SomeMeet`
abbrev pub some_meet : List Edge → List Edge → Bool
some_meet a b = list_any (λ e. list_any (λ f. segments_meet e.from e.to f.from f.to) b) a

-- `RegionsMeet`
abbrev pub regions_meet : Shape → Shape → Bool
regions_meet a b =
    some_meet (shape_edges a) (shape_edges b) || (list_any (λ p. is_in p b) (shape_corners a) || list_any (λ p. is_in p a) (shape_corners b))

-- `RegionMeets`
abbrev pub region_meets : Shape → Shape → Bool
region_meets a (Spot q) = is_in q a
region_meets a (Frame g) = regions_meet a (Frame g)
region_meets a (Area s) = regions_meet a (Area s)

-- `Meets`: the two shapes share a point
abbrev pub shapes_meet : Shape → Shape → Bool
shapes_meet (Spot p) b = is_in p b
shapes_meet (Frame f) b = region_meets (Frame f) b
shapes_meet (Area r) b = region_meets (Area r) b

-- `AreFramed`
abbrev pub are_framed : List Point → Shape → Bool
are_framed corners (Spot p) = false
are_framed corners (Frame bounds) = list_all (is_held bounds) corners
are_framed corners (Area region) = false

-- `IsWithin`: the first shape lies within the second
abbrev pub shape_within : Shape → Shape → Bool
shape_within (Spot p) b = is_in p b && not (is_on_some p (shape_edges b))
shape_within (Frame f) b = are_framed (shape_corners (Frame f)) b
shape_within (Area r) b = are_framed (shape_corners (Area r)) b

-- the same if it is judged: for a point in any shape, for a region in a frame only
abbrev pub within : Shape → Shape → Option Bool
within a b = if is_judged a b then Some (shape_within a b) else None
