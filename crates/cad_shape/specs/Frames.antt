-- What a box holds, covers and shares with another, and its corners.
use Rattle.std.specs.Prelude.{◌≤ℤ◌, List, [], ◌∷◌, All}
use Rattle.cad_shape.specs.declared.point.Point.{Point}
use Rattle.cad_shape.specs.declared.boxes.Bounds.{Bounds}

abbrev pub IsWithinWidth : Bounds → Point → Type 0
IsWithinWidth bounds p = (bounds.x_min ≤ℤ p.x) × (p.x ≤ℤ bounds.x_max)

abbrev pub IsWithinHeight : Bounds → Point → Type 0
IsWithinHeight bounds p = (bounds.y_min ≤ℤ p.y) × (p.y ≤ℤ bounds.y_max)

-- the closed box holds the point
abbrev pub IsHeld : Bounds → Point → Type 0
IsHeld bounds p = IsWithinWidth bounds p × IsWithinHeight bounds p

abbrev pub CoversWidth : Bounds → Bounds → Type 0
CoversWidth outer inner = (outer.x_min ≤ℤ inner.x_min) × (inner.x_max ≤ℤ outer.x_max)

abbrev pub CoversHeight : Bounds → Bounds → Type 0
CoversHeight outer inner = (outer.y_min ≤ℤ inner.y_min) × (inner.y_max ≤ℤ outer.y_max)

-- the outer box holds all of the inner one
abbrev pub Covers : Bounds → Bounds → Type 0
Covers outer inner = CoversWidth outer inner × CoversHeight outer inner

abbrev pub ShareWidth : Bounds → Bounds → Type 0
ShareWidth a b = (a.x_min ≤ℤ b.x_max) × (b.x_min ≤ℤ a.x_max)

abbrev pub ShareHeight : Bounds → Bounds → Type 0
ShareHeight a b = (a.y_min ≤ℤ b.y_max) × (b.y_min ≤ℤ a.y_max)

-- the two boxes share a point
abbrev pub Overlap : Bounds → Bounds → Type 0
Overlap a b = ShareWidth a b × ShareHeight a b

-- the box holds all these points, and each box that holds them covers it (OGC 06-103r4, 6.1.2.2, `Envelope`)
pub record IsLeastBounds (bounds : Bounds) (points : List Point) : Type 0 where
  pub holds : All (IsHeld bounds) points
  pub least : (other : Bounds) → All (IsHeld other) points → Covers other bounds

-- the corners of the box, counterclockwise from the lower left one
abbrev pub frame_corners : Bounds → List Point
frame_corners b =
    record { x = b.x_min; y = b.y_min; x_in_range = b.width.0; y_in_range = b.height.0 }
    ∷ record { x = b.x_max; y = b.y_min; x_in_range = b.width.1; y_in_range = b.height.0 }
    ∷ record { x = b.x_max; y = b.y_max; x_in_range = b.width.1; y_in_range = b.height.1 }
    ∷ record { x = b.x_min; y = b.y_max; x_in_range = b.width.0; y_in_range = b.height.1 }
    ∷ []

-- the new box holds the old one and the point, and each box that holds both covers it
pub record IsStretched (old : Bounds) (p : Point) (new : Bounds) : Type 0 where
  pub keeps : Covers new old
  pub holds : IsHeld new p
  pub least : (other : Bounds) → Covers other old → IsHeld other p → Covers other new
