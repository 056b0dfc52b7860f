-- Columns and rows as the code counts them: from the plane's edge, which lies 1,525,879 cells before the origin.
use Rattle.std.specs.Prelude.{ℕ, ℤ, pos, ◌-ℤ◌}
use Rattle.cad_grid.specs.declared.cells.Cells.{Cells}
use Rattle.cad_grid.specs.Blocks.{Block}

abbrev pub from_origin : ℕ → ℤ
from_origin n = pos n -ℤ pos 1525879

abbrev pub block_at : Cells → Block
block_at c = record { left = from_origin c.left; right = from_origin c.right; low = from_origin c.low; high = from_origin c.high }
