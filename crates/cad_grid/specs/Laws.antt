-- What cells are, in the plane's own terms.
use Rattle.std.specs.Prelude.{◌≡◌, ◌↔◌, ℤ, pos, ◌+ℤ◌, ◌*ℤ◌, ◌≤ℤ◌, ◌<ℤ◌, IsTrue, List}
use Rattle.cad_shape.specs.declared.point.Point.{Point}
use Rattle.cad_shape.specs.declared.boxes.Bounds.{Bounds}
use Rattle.cad_shape.specs.Frames.{IsLeastBounds}
use Rattle.cad_grid.specs.Blocks.{Block, cell_number, block_of, block_around, share_a_cell}

-- a column or row has its first edge and not its last one, and number 0 begins at the origin
abbrev pub CellsAreSquares : Type 0
CellsAreSquares = (x n : ℤ) → (cell_number x ≡ n) ↔ (((n *ℤ pos 65536) ≤ℤ x) × (x <ℤ ((n *ℤ pos 65536) +ℤ pos 65536)))

-- some number from low to high lies in the column or row
abbrev pub Reaches : ℤ → ℤ → ℤ → Type 0
Reaches low high n = (x : ℤ) × (low ≤ℤ x) × (x ≤ℤ high) × (cell_number x ≡ n)

-- the box shares a point with the cell in that column and row
abbrev pub Touches : Bounds → ℤ → ℤ → Type 0
Touches b column row = Reaches b.x_min b.x_max column × Reaches b.y_min b.y_max row

abbrev pub IsAmong : Block → ℤ → ℤ → Type 0
IsAmong b column row = (b.left ≤ℤ column) × (column ≤ℤ b.right) × (b.low ≤ℤ row) × (row ≤ℤ b.high)

-- the cells of a block are those that the box touches
abbrev pub BlocksAreTouched : Type 0
BlocksAreTouched = (b : Bounds) (column row : ℤ) → Touches b column row ↔ IsAmong (block_of b) column row

-- two boxes share a cell exactly if both touch one cell
abbrev pub SharedCellsAreTouched : Type 0
SharedCellsAreTouched = (a b : Bounds) → IsTrue (share_a_cell (block_of a) (block_of b)) ↔ ((column : ℤ) × (row : ℤ) × (Touches a column row × Touches b column row))

-- the block of corners is that of the least box around them
abbrev pub BlocksAreOfCorners : Type 0
BlocksAreOfCorners = (b : Bounds) (points : List Point) → IsLeastBounds b points → block_around points ≡ block_of b
