-- The points of a list that touch the least box around it.
use Rattle.std.specs.Prelude.{ℕ, ◌<◌, ◌<ℤ◌, List, length, slice_index_or, All}
use Rattle.cad_shape.specs.declared.point.Point.{Point}
use Rattle.cad_shape.specs.declared.extremes.Way.{Way}
use Rattle.cad_shape.specs.declared.extremes.Way.TheVariants.{West, South, East, North}
use Rattle.cad_shape.specs.declared.extremes.Extremes.{Extremes}
use Rattle.cad_shape.specs.Crossings.{origin}

-- p lies farther in this direction than q
abbrev pub IsFarther : Way → Point → Point → Type 0
IsFarther West p q = p.x <ℤ q.x
IsFarther South p q = p.y <ℤ q.y
IsFarther East p q = q.x <ℤ p.x
IsFarther North p q = q.y <ℤ p.y

abbrev pub point_at : List Point → ℕ → Point
point_at points i = slice_index_or points i origin

-- no point lies farther in this direction than the one at place i
abbrev pub IsFarthest : Way → List Point → ℕ → Type 0
IsFarthest way points i = (i < length points) × All (λ p. ¬ (IsFarther way p (point_at points i))) points

-- the places of a farthest point in each direction
pub record AreExtremes (points : List Point) (extremes : Extremes) : Type 0 where
  pub west : IsFarthest West points extremes.west
  pub south : IsFarthest South points extremes.south
  pub east : IsFarthest East points extremes.east
  pub north : IsFarthest North points extremes.north
