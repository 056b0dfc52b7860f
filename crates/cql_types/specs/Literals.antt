-- The points, boxes, regions and days that the numbers and texts of literals spell (OGC 21-065r2, requirements classes Basic Spatial
-- Functions: spatial literals, and Temporal Functions: INTERVAL; the limits: own profile).
use Rattle.std.specs.Prelude.{◌≡◌, ℕ, ℤ, ◌<ℤ◌, Bool, false, List, [], ◌∷◌, ◌++◌, Option, None, Ok}
use Rattle.cad_day.specs.DayTexts.{day_named}
use Rattle.cad_day.specs.Intervals.{are_turned as is_turned}
use Rattle.cad_shape.specs.declared.point.Point.{Point}
use Rattle.cad_shape.specs.Coordinates.{IsCoordinate}
use Rattle.cad_shape.specs.declared.ring.Ring.{Ring}
use Rattle.cad_shape.specs.Rings.{corners_of}
use Rattle.cad_shape.specs.Polygons.{IsRegion}
use Rattle.cql_tree.specs.Syntax.{Syntax, Parts, none, part, leaf, node, number_leaf, bound_leaf, ring_op}
use Rattle.cql_types.specs.Numbers.{written}

-- the parts are numbers, of these values
pub data AreNumbers : Parts → List ℤ → Type 0 where
  no_number : AreNumbers none []
  one_number : {p : ℕ} {is_negative : Bool} {spelling : List ℕ} {ts : Parts} {z : ℤ} {zs : List ℤ} → written is_negative spelling ≡ Ok z → AreNumbers ts zs →
      AreNumbers (part (leaf p (number_leaf is_negative spelling)) ts) (z ∷ zs)

-- POINT
pub record IsPoint (ps : Parts) : Type 0 where
  pub x : ℤ
  pub y : ℤ
  pub numbers : AreNumbers ps (x ∷ y ∷ [])
  pub x_in_range : IsCoordinate x
  pub y_in_range : IsCoordinate y

-- BBOX, the least corner first: it has width and height
pub record IsBox (ps : Parts) : Type 0 where
  pub x_min : ℤ
  pub y_min : ℤ
  pub x_max : ℤ
  pub y_max : ℤ
  pub numbers : AreNumbers ps (x_min ∷ y_min ∷ x_max ∷ y_max ∷ [])
  pub low : IsCoordinate x_min × IsCoordinate y_min
  pub high : IsCoordinate x_max × IsCoordinate y_max
  pub width : x_min <ℤ x_max
  pub height : y_min <ℤ y_max

-- x and y of each point
abbrev pub coordinates_of : List Point → List ℤ
coordinates_of [] = []
coordinates_of (p ∷ ps) = p.x ∷ p.y ∷ coordinates_of ps

-- with the first point repeated at the end
abbrev pub closed : List Point → List Point
closed [] = []
closed (p ∷ ps) = (p ∷ ps) ++ (p ∷ [])

-- the numbers of the closed line along a ring
abbrev pub outline_of : Ring → List ℤ
outline_of ring = coordinates_of (closed (corners_of ring))

-- the parts are lines along the rings
pub data AreRings : Parts → List Ring → Type 0 where
  no_ring : AreRings none []
  one_ring : {ps ts : Parts} {ring : Ring} {rings : List Ring} → AreNumbers ps (outline_of ring) → AreRings ts rings →
      AreRings (part (node ring_op ps) ts) (ring ∷ rings)

-- POLYGON: lines along the rings of a region, its exterior boundary first
pub record IsPolygon (ps : Parts) : Type 0 where
  pub rings : List Ring
  pub lines : AreRings ps rings
  pub is_region : IsRegion rings

-- the day of a literal end of an INTERVAL
abbrev pub day_at : Syntax → Option ℤ
day_at (leaf p (bound_leaf content)) = day_named content
day_at _ = None

-- two literal days, the last before the first
abbrev pub are_turned : Parts → Bool
are_turned (part from (part to rest)) = is_turned (day_at from) (day_at to)
are_turned _ = false
