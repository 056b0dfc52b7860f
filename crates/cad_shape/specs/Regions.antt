-- Regions by their edges.
use Rattle.std.specs.Prelude.{ℕ, ◌+◌, ◌%◌, ℤ, pos, ◌*ℤ◌, ◌≡◌, ◌≤ℤ◌, ◌<ℤ◌, ◌⊎◌, Bool, false, ◌&&◌, int_le, int_lt, if◌then◌else◌, List, [], ◌∷◌}
use Rattle.cad_shape.specs.declared.point.Point.{Point}
use Rattle.cad_shape.specs.Segments.{IsOn, Meet, turn}
use Rattle.cad_shape.specs.Edges.{Edge, AnyOf}

-- t lies on the edge from p to q
abbrev pub IsOnEdge : Point → Point → Point → Type 0
IsOnEdge t p q = IsOn p q t.x t.y (pos 1)

-- t lies on some of the edges
abbrev pub IsOnSome : Point → List Edge → Type 0
IsOnSome t edges = AnyOf (λ e. IsOnEdge t e.from e.to) edges

-- the edge from p to q has one end with y at most that of t and the other above it, and crosses the height of t right of t, at (x / w, t.y)
pub record IsRight (t p q : Point) (x w : ℤ) : Type 0 where
  pub whole : pos 0 <ℤ w
  pub spans : ((p.y ≤ℤ t.y) × (t.y <ℤ q.y)) ⊎ ((q.y ≤ℤ t.y) × (t.y <ℤ p.y))
  pub on : IsOn p q x (w *ℤ t.y) w
  pub right : (w *ℤ t.x) <ℤ x

abbrev pub CrossesRight : Point → Point → Point → Type 0
CrossesRight t p q = (x : ℤ) × (w : ℤ) × IsRight t p q x w

-- t is at least as high as p, and lower than q
abbrev pub rises : Point → Point → Point → Bool
rises t p q = int_le p.y t.y && int_lt t.y q.y

-- whether an edge crosses right of t, by the side on which t lies; it does if and only if `CrossesRight` holds
abbrev pub passes : Point → Point → Point → Bool
passes t p q =
    if rises t p q then int_lt (pos 0) (turn p q t)
    else (if rises t q p then int_lt (pos 0) (turn q p t) else false)

-- how many of the edges cross the height of t right of t
abbrev pub crossings : Point → List Edge → ℕ
crossings t [] = 0
crossings t (e ∷ es) = (if passes t e.from e.to then 1 else 0) + crossings t es

-- t lies in the region inside these edges: on one of them, or an odd number of them cross its height right of it
abbrev pub IsInRegion : Point → List Edge → Type 0
IsInRegion t edges = IsOnSome t edges ⊎ (crossings t edges % 2 ≡ 1)

-- the segment from p to q shares a point with some of the edges
abbrev pub MeetsSome : Point → Point → List Edge → Type 0
MeetsSome p q edges = AnyOf (λ e. Meet p q e.from e.to) edges

-- some edges of the two lists share a point
abbrev pub SomeMeet : List Edge → List Edge → Type 0
SomeMeet a b = AnyOf (λ e. MeetsSome e.from e.to b) a
