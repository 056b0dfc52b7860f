-- Cells of which each square is marked, and cells of which no square is.
use Rattle.std.proofs.Common.{◌≡◌, ℕ, ◌/◌, ◌≤◌, Bool, true, false, Some, refl, subst, max, arith}
use Rattle.std.specs.Prelude.{int_le, not, ◌||◌}
use Rattle.std.proofs.lemmas.Bool.{and_parts, false≢true}
use Rattle.std.proofs.lemmas.Int.{ints}
use Rattle.cad_grid.specs.declared.cells.Cells.{Cells}
use Rattle.cad_grid.specs.Blocks.{Block, is_wide, share_a_cell}
use Rattle.cad_grid.specs.Counted.{block_at, from_origin}
use Rattle.cad_grid.specs.Near.{is_candidate}
use Rattle.cad_marks.specs.Marked.{IsMarked}
use Rattle.cad_marks.specs.declared.marks.Marks.{Marks}
use Rattle.cad_extents.specs.declared.covered.Covered.{Covered}
use Rattle.cad_extents.specs.Extents.{IsCovered}
use Rattle.cad_grid.specs.Squares.{AreFree, AreMarked, place_at}

-- two ranges of numbers that share one share the row or column of squares of the greater of their first numbers
within : (a b c d : ℕ) → a ≤ b → c ≤ d → int_le (from_origin a) (from_origin d) ≡ true → int_le (from_origin c) (from_origin b) ≡ true
    → (n : ℕ) × ((a / 8 ≤ n) × (n ≤ b / 8)) × ((c / 8 ≤ n) × (n ≤ d / 8))
within a b c d h k x y =
    let one : a ≤ d = grind (arith, ints) in
    let two : c ≤ b = grind (arith, ints) in
    (max a c / 8, (omega arith, omega arith), (omega arith, omega arith))

-- cells of which each square is marked share no cell with cells of which none is
pub free_apart : (m : Marks 64) (cells asked : Cells) → AreMarked m cells → AreFree m asked → share_a_cell (block_at cells) (block_at asked) ≡ false
free_apart m cells asked marked free = go (share_a_cell (block_at cells) (block_at asked)) refl
  where
    go : (b : Bool) → share_a_cell (block_at cells) (block_at asked) ≡ b → b ≡ false
    go false e = refl
    go true e =
        let both = and_parts _ _ e in
        let across = and_parts _ _ both.0 in
        let down = and_parts _ _ both.1 in
        let column = within cells.left cells.right asked.left asked.right cells.wide asked.wide across.0 across.1 in
        let row = within cells.low cells.high asked.low asked.high cells.tall asked.tall down.0 down.1 in
        absurd (free row.0 row.2.0 row.2.1 column.0 column.2.0 column.2.1 (marked row.0 row.1.0 row.1.1 column.0 column.1.0 column.1.1))

-- a shape whose squares are all marked is not looked at when cells are asked for of which no square is
pub not_shared : (covered : Covered) (asked : Cells) → AreFree covered.marks asked → (own : Block) → IsCovered covered own → is_candidate (block_at asked) (Some own) ≡ false
not_shared covered asked free own held =
    let cells = held.1.0 in
    let apart = subst (λ b. share_a_cell b (block_at asked) ≡ false) held.1.1 (free_apart covered.marks cells asked held.1.2 free) in
    go (is_wide own) (and_parts _ _ held.0).0 apart
  where
    go : (w : Bool) → not w ≡ true → share_a_cell own (block_at asked) ≡ false → (w || share_a_cell own (block_at asked)) ≡ false
    go true e a = absurd (false≢true e)
    go false e a = a

-- with the same marks and more, the same shapes are covered
pub copy_covers : (covered : Covered) (marks : Marks 64) → ((k : ℕ) → IsMarked covered.marks k → IsMarked marks k) → (b : Block) → IsCovered covered b → IsCovered (record covered { marks = marks }) b
copy_covers covered marks same b held = (held.0, (held.1.0, held.1.1, λ row low high column left right. same (place_at row column) (held.1.2 row low high column left right)))
