-- Two boxes share a cell exactly where both touch one.
use Rattle.std.proofs.Common.{◌≡◌, true, arith}
use Rattle.std.specs.Prelude.{ℤ, ◌≤ℤ◌, ◌&&◌, int_le, IsTrue, ◌↔◌}
use Rattle.std.proofs.lemmas.Int.{ints}
use Rattle.cad_shape.specs.declared.boxes.Bounds.{Bounds}
use Rattle.cad_grid.specs.Blocks.{cell_number, block_of, share_a_cell}
use Rattle.cad_grid.specs.Laws.{Touches}
use Rattle.cad_grid.proofs.CellLemmas.{reached, shared}

record AllLe (a b c d e f g h : ℤ) : Type 0 where
  pub one : a ≤ℤ b
  pub two : c ≤ℤ d
  pub three : e ≤ℤ f
  pub four : g ≤ℤ h

told : (a b c d e f g h : ℤ) → ((int_le a b && int_le c d) && (int_le e f && int_le g h)) ≡ true → AllLe a b c d e f g h
told a b c d e f g h t = record { one = grind (arith, ints); two = grind (arith, ints); three = grind (arith, ints); four = grind (arith, ints) }

tells : (a b c d e f g h : ℤ) → AllLe a b c d e f g h → ((int_le a b && int_le c d) && (int_le e f && int_le g h)) ≡ true
tells a b c d e f g h l = let p = l.one in let q = l.two in let r = l.three in let s = l.four in grind (arith, ints)

pub shared_is_touched : (a b : Bounds) → IsTrue (share_a_cell (block_of a) (block_of b)) ↔ ((column : ℤ) × (row : ℤ) × (Touches a column row × Touches b column row))
shared_is_touched a b = (
  λ t.
      let l = told (cell_number a.x_min) (cell_number b.x_max) (cell_number b.x_min) (cell_number a.x_max) (cell_number a.y_min) (cell_number b.y_max) (cell_number b.y_min) (cell_number a.y_max) t in
      let x = shared a.x_min a.x_max b.x_min b.x_max a.width.2 b.width.2 l.one l.two in
      let y = shared a.y_min a.y_max b.y_min b.y_max a.height.2 b.height.2 l.three l.four in
      (x.0, y.0, ((x.1.0, y.1.0), (x.1.1, y.1.1))),
  λ s.
      let p = reached a.x_min a.x_max s.0 s.2.0.0 in
      let q = reached a.y_min a.y_max s.1 s.2.0.1 in
      let r = reached b.x_min b.x_max s.0 s.2.1.0 in
      let v = reached b.y_min b.y_max s.1 s.2.1.1 in
      tells (cell_number a.x_min) (cell_number b.x_max) (cell_number b.x_min) (cell_number a.x_max) (cell_number a.y_min) (cell_number b.y_max) (cell_number b.y_min) (cell_number a.y_max) (record { one = omega (arith, ints); two = omega (arith, ints); three = omega (arith, ints); four = omega (arith, ints) }),
)
