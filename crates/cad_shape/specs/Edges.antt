-- The edges of rings.
use Rattle.std.specs.Prelude.{List, [], ◌∷◌, ◌++◌, ◌⊎◌}
use Rattle.cad_shape.specs.declared.point.Point.{Point}

-- a segment, from one point to another
pub record Edge : Type 0 where
  pub from : Point
  pub to : Point

-- the edges of the walk from p through the points in order
abbrev pub walk : Point → List Point → List Edge
walk p [] = []
walk p (q ∷ qs) = record { from = p; to = q } ∷ walk q qs

-- the edges of the ring through these corners, in order: from each corner to the next one, and from the last to the first (OGC 06-103r4,
-- 6.1.7, `LinearRing`)
abbrev pub edges_of : List Point → List Edge
edges_of [] = []
edges_of (p ∷ qs) = walk p (qs ++ p ∷ [])

-- the point at which that walk ends
abbrev pub end_of : Point → List Point → Point
end_of p [] = p
end_of p (q ∷ qs) = end_of q qs

-- the predicate holds of some element
abbrev pub AnyOf : {X : Type 0} → (X → Type 0) → List X → Type 0
AnyOf P [] = ⊥
AnyOf P (x ∷ xs) = P x ⊎ AnyOf P xs
