-- Lists of corners that are rings.
use Rattle.std.specs.Prelude.{◌≡◌, ◌≤◌, pos, List, length}
use Rattle.cad_shape.specs.declared.point.Point.{Point}
use Rattle.cad_shape.specs.Edges.{Edge, edges_of}
use Rattle.cad_shape.specs.Areas.{doubled_area}
use Rattle.cad_shape.specs.Crossings.{NoneCross}

-- the signed area is not zero
abbrev pub HasArea : List Edge → Type 0
HasArea edges = ¬ (doubled_area edges ≡ pos 0)

-- from 3 to 1,000 corners (own profile)
abbrev pub IsCounted : List Point → Type 0
IsCounted corners = (3 ≤ length corners) × (length corners ≤ 1000)

-- the corners, in order, of a simple ring with area, the first not repeated at the end (OGC 06-103r4, 6.1.7, `LinearRing`)
pub record IsRing (corners : List Point) : Type 0 where
  pub counted : IsCounted corners
  pub has_area : HasArea (edges_of corners)
  pub simple : NoneCross (edges_of corners)
