-- Cells of the register's plane, by which shapes are found (own profile): squares of 65,536 mm, cell (0, 0) beginning at the origin. A cell has its left and its lower edge, and not the others.
use Rattle.std.specs.Prelude.{ℤ, pos, ◌+ℤ◌, ◌-ℤ◌, ◌*ℤ◌, int_lt, int_le, Bool, ◌&&◌, List, [], ◌∷◌, map}
use Rattle.std.specs.Int.{int_div_euclid, int_min, int_max}
use Rattle.cad_shape.specs.declared.point.Point.{Point}
use Rattle.cad_shape.specs.declared.boxes.Bounds.{Bounds}

-- the column of an x, and the row of a y: divided by 65,536, rounded down
abbrev pub cell_number : ℤ → ℤ
cell_number x = int_div_euclid x (pos 65536)

-- the cells in the columns from left to right and the rows from low to high
pub record Block : Type 0 where
  pub left : ℤ
  pub right : ℤ
  pub low : ℤ
  pub high : ℤ

-- the cells that the box touches
abbrev pub block_of : Bounds → Block
block_of b = record { left = cell_number b.x_min; right = cell_number b.x_max; low = cell_number b.y_min; high = cell_number b.y_max }

-- how many columns or rows there are from one to another
abbrev pub from_to : ℤ → ℤ → ℤ
from_to first last = (last -ℤ first) +ℤ pos 1

-- more than 64 cells
abbrev pub is_wide : Block → Bool
is_wide b = int_lt (pos 64) (from_to b.left b.right *ℤ from_to b.low b.high)

-- some cell is in both blocks
abbrev pub share_a_cell : Block → Block → Bool
share_a_cell a b = (int_le a.left b.right && int_le b.left a.right) && (int_le a.low b.high && int_le b.low a.high)

-- ---- the block around corners

-- the least of the first number and the others
abbrev pub least : ℤ → List ℤ → ℤ
least x [] = x
least x (y ∷ ys) = least (int_min x y) ys

-- the greatest of them
abbrev pub greatest : ℤ → List ℤ → ℤ
greatest x [] = x
greatest x (y ∷ ys) = greatest (int_max x y) ys

abbrev pub all_x : List Point → List ℤ
all_x ps = map (λ p. p.x) ps

abbrev pub all_y : List Point → List ℤ
all_y ps = map (λ p. p.y) ps

-- the cells that the least box around these corners touches (OGC 06-103r4, 6.1.2.2, `Envelope`)
abbrev pub block_around : List Point → Block
block_around [] = record { left = pos 0; right = pos 0; low = pos 0; high = pos 0 }
block_around (p ∷ ps) = record {
  left = cell_number (least p.x (all_x ps));
  right = cell_number (greatest p.x (all_x ps));
  low = cell_number (least p.y (all_y ps));
  high = cell_number (greatest p.y (all_y ps));
}
