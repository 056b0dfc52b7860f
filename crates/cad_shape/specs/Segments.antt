-- Segments of the plane, and the points on them.
use Rattle.std.specs.Prelude.{ℤ, pos, ◌-ℤ◌, ◌*ℤ◌, ◌≡◌, ◌≤ℤ◌, ◌<ℤ◌, ◌⊎◌}
use Rattle.cad_shape.specs.declared.point.Point.{Point}

-- n lies between a and b, in either order
abbrev pub IsBetween : ℤ → ℤ → ℤ → Type 0
IsBetween a b n = ((a ≤ℤ n) × (n ≤ℤ b)) ⊎ ((b ≤ℤ n) × (n ≤ℤ a))

-- the point (x / w, y / w) lies on the segment from p to q
pub record IsOn (p q : Point) (x y w : ℤ) : Type 0 where
  pub line : (q.x -ℤ p.x) *ℤ (y -ℤ w *ℤ p.y) ≡ (q.y -ℤ p.y) *ℤ (x -ℤ w *ℤ p.x)
  pub in_x : IsBetween (w *ℤ p.x) (w *ℤ q.x) x
  pub in_y : IsBetween (w *ℤ p.y) (w *ℤ q.y) y

-- the point (x / w, y / w) lies on both segments, p to q and r to s
pub record IsShared (p q r s : Point) (x y w : ℤ) : Type 0 where
  pub whole : pos 0 <ℤ w
  pub first : IsOn p q x y w
  pub second : IsOn r s x y w

-- the two segments share a point
abbrev pub Meet : Point → Point → Point → Point → Type 0
Meet p q r s = (x : ℤ) × (y : ℤ) × (w : ℤ) × IsShared p q r s x y w

-- above 0 if r lies left of the line from p to q, below 0 if on its right, 0 if on the line
abbrev pub turn : Point → Point → Point → ℤ
turn p q r = (q.x -ℤ p.x) *ℤ (r.y -ℤ p.y) -ℤ (q.y -ℤ p.y) *ℤ (r.x -ℤ p.x)

-- two numbers that are not both above 0 and not both below 0
abbrev pub Straddle : ℤ → ℤ → Type 0
Straddle f g = ((f ≤ℤ pos 0) × (pos 0 ≤ℤ g)) ⊎ ((g ≤ℤ pos 0) × (pos 0 ≤ℤ f))

-- a and b both lie below c and d
abbrev pub AllBelow : ℤ → ℤ → ℤ → ℤ → Type 0
AllBelow a b c d = (a <ℤ c) × (a <ℤ d) × (b <ℤ c) × (b <ℤ d)

-- in one coordinate the segments are apart: both ends of one are below both ends of the other
abbrev pub Apart : ℤ → ℤ → ℤ → ℤ → Type 0
Apart p q r s = AllBelow p q r s ⊎ AllBelow r s p q

-- a and b both lie below a range, or both above it
abbrev pub IsOutOf : ℤ → ℤ → ℤ → ℤ → Type 0
IsOutOf low high a b = ((a <ℤ low) × (b <ℤ low)) ⊎ ((high <ℤ a) × (high <ℤ b))
