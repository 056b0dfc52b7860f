-- Columns and rows hold 65,536 mm each, so a number lies in one alone.
use Rattle.std.proofs.Common.{◌≡◌, ◌∙◌, ℕ, ◌≤◌, ap, arith}
use Rattle.std.specs.Prelude.{ℤ, pos, negsuc, ◌+ℤ◌, ◌*ℤ◌, ◌≤ℤ◌, ◌<ℤ◌}
use Rattle.std.proofs.lemmas.Int.{ints, by_lt_z, to_z-of_z}
use mir.Syntax.{w64}
use mir.Val.{SFits, of_z, to_z}
use Rattle.cad_grid.specs.Blocks.{cell_number}
use Rattle.cad_grid.specs.Counted.{from_origin}
use Rattle.cad_grid.specs.Laws.{Reaches}

pub record IsIn (x n : ℤ) : Type 0 where
  pub from : (n *ℤ pos 65536) ≤ℤ x
  pub under : x <ℤ ((n *ℤ pos 65536) +ℤ pos 65536)

pub in_its_cell : (x : ℤ) → IsIn x (cell_number x)
in_its_cell (pos a) = record { from = omega (arith, ints); under = omega (arith, ints) }
in_its_cell (negsuc a) = record { from = omega (arith, ints); under = omega (arith, ints) }

pub one_cell : (x n : ℤ) → IsIn x n → cell_number x ≡ n
one_cell x n h = let i = in_its_cell x in omega (arith, ints)

pub cells_ascend : (x y : ℤ) → x ≤ℤ y → cell_number x ≤ℤ cell_number y
cells_ascend x y h = let i = in_its_cell x in let j = in_its_cell y in omega (arith, ints)

pub counted_up : (m n : ℕ) (x y : ℤ) → from_origin m ≡ cell_number x → from_origin n ≡ cell_number y → x ≤ℤ y → m ≤ n
counted_up m n x y p q h = let k = cells_ascend x y h in omega (arith, ints)

pub passed_on : (m : ℕ) (x : ℤ) → SFits w64 x → from_origin m ≡ cell_number (to_z w64 (of_z w64 x)) → from_origin m ≡ cell_number x
passed_on m x fits e = e ∙ ap cell_number (to_z-of_z w64 x fits)

pub reached : (low high n : ℤ) → Reaches low high n → (cell_number low ≤ℤ n) × (n ≤ℤ cell_number high)
reached low high n r = (rw r.3 at (cells_ascend low r.0 r.1), rw r.3 at (cells_ascend r.0 high r.2))

-- the greater of the edge of the column and the low end lies in it
pub reaches : (low high n : ℤ) → low ≤ℤ high → cell_number low ≤ℤ n → n ≤ℤ cell_number high → Reaches low high n
reaches low high n up h k =
    let i = in_its_cell low in
    let j = in_its_cell high in
    by_lt_z low (n *ℤ pos 65536)
    (λ l. (n *ℤ pos 65536, omega (arith, ints), omega (arith, ints), one_cell (n *ℤ pos 65536) n (record { from = omega (arith, ints); under = omega (arith, ints) })))
    (λ l. (low, omega (arith, ints), up, one_cell low n (record { from = l; under = omega (arith, ints) })))

pub shared : (a b c d : ℤ) → a ≤ℤ b → c ≤ℤ d → cell_number a ≤ℤ cell_number d → cell_number c ≤ℤ cell_number b → (n : ℤ) × (Reaches a b n × Reaches c d n)
shared a b c d up over h k = by_lt_z (cell_number a) (cell_number c)
    (λ l. (cell_number c, (reaches a b (cell_number c) up (omega (arith, ints)) k, reaches c d (cell_number c) over (omega (arith, ints)) (cells_ascend c d over))))
    (λ l. (cell_number a, (reaches a b (cell_number a) up (omega (arith, ints)) (cells_ascend a b up), reaches c d (cell_number a) over l h)))
