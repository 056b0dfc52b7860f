-- Areas inside edges.
use Rattle.std.specs.Prelude.{ℤ, pos, neg_ℤ, ◌+ℤ◌, ◌-ℤ◌, ◌*ℤ◌, ◌≤ℤ◌, List, [], ◌∷◌}
use Rattle.cad_shape.specs.declared.point.Point.{Point}
use Rattle.cad_shape.specs.Edges.{Edge}

-- twice the area of the triangle from the origin through p to q, below 0 if it turns right
abbrev pub sweep : Point → Point → ℤ
sweep p q = p.x *ℤ q.y -ℤ q.x *ℤ p.y

-- twice the signed area inside the edges, above 0 if they go round to the left (OGC 06-103r4, 6.1.10, `Area`)
abbrev pub doubled_area : List Edge → ℤ
doubled_area [] = pos 0
doubled_area (e ∷ es) = sweep e.from e.to +ℤ doubled_area es

abbrev pub IsSweep : ℤ → Type 0
IsSweep n = (neg_ℤ (pos 80000000000000000000000) ≤ℤ n) × (n ≤ℤ pos 80000000000000000000000)
