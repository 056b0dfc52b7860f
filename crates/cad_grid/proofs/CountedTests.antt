-- The tests of blocks, by the numbers that the code counts.
use Rattle.std.proofs.Common.{◌≡◌, ℕ, ◌+◌, ◌-◌, ◌*◌, ◌≤◌, refl, arith}
use Rattle.std.specs.Prelude.{pos, int_le, nat_lt, nat_le, ◌&&◌}
use Rattle.std.proofs.lemmas.Int.{ints}
use Rattle.cad_grid.specs.declared.cells.Cells.{Cells}
use Rattle.cad_grid.specs.Blocks.{is_wide, share_a_cell, from_to}
use Rattle.cad_grid.specs.Counted.{from_origin, block_at}

le_moved : (m n : ℕ) → int_le (from_origin m) (from_origin n) ≡ nat_le m n
le_moved m n = grind (arith, ints)

pub shared_by_numbers : (a b : Cells) → share_a_cell (block_at a) (block_at b) ≡ ((nat_le a.left b.right && nat_le b.left a.right) && (nat_le a.low b.high && nat_le b.low a.high))
shared_by_numbers a b = rw (le_moved a.left b.right, le_moved b.left a.right, le_moved a.low b.high, le_moved b.low a.high) refl

counted : (m n : ℕ) → m ≤ n → from_to (from_origin m) (from_origin n) ≡ pos (n + 1 - m)
counted m n h = omega (arith, ints)

pub wide_by_numbers : (c : Cells) → is_wide (block_at c) ≡ nat_lt 64 ((c.right + 1 - c.left) * (c.high + 1 - c.low))
wide_by_numbers c = rw (counted c.left c.right c.wide, counted c.low c.high c.tall) refl
