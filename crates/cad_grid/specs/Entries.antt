-- Shapes entered in the cells that their bounds touch (own profile: a shape in more than 64 cells is entered in none).
use Rattle.std.specs.Prelude.{◌≡◌, ℕ, zero, suc, ◌+◌, ◌-◌, ◌<◌, ◌≤◌, ◌==◌, nat_le, max, Bool, false, cond, ◌&&◌, List, ◌++◌, length, map, filter, get_or, Option, Some, None}
use Rattle.cad_grid.specs.declared.cells.Cells.{Cells}
use Rattle.cad_grid.specs.Blocks.{is_wide}
use Rattle.cad_grid.specs.Counted.{block_at}
use Rattle.cad_positions.specs.Hits.{hits, once, picks}
use Rattle.cad_grid.specs.declared.entry.Entry.{Entry}

-- the entry at a place, and past the end one that no request asks for
abbrev pub entry_at : List Entry → ℕ → Entry
entry_at es k = get_or es k (record { row = 0; column = 0; position = 0 })

-- how many entries of the position pass a test of row and column
abbrev pub entered : (ℕ → ℕ → Bool) → ℕ → List Entry → ℕ
entered q v es = picks (λ e. q e.row e.column) (λ e. e.position) v es

-- the count if the position is this one, else 0
abbrev pub for_position : ℕ → ℕ → ℕ → ℕ
for_position position v count = cond (position == v) count 0

-- the sum of f over n numbers from a on
abbrev pub tally : (ℕ → ℕ) → ℕ → ℕ → ℕ
tally f a zero = 0
tally f a (suc n) = f a + tally f (a + 1) n

-- how many cells of the row, and of all rows, pass the test
abbrev pub in_row : (ℕ → ℕ → Bool) → Cells → ℕ → ℕ
in_row q c row = tally (λ column. once (q row column)) c.left (c.right + 1 - c.left)

abbrev pub in_all : (ℕ → ℕ → Bool) → Cells → ℕ
in_all q c = tally (in_row q c) c.low (c.high + 1 - c.low)

abbrev pub is_wide_at : Option Cells → Bool
is_wide_at None = false
is_wide_at (Some c) = is_wide (block_at c)

-- how many cells pass the test of a shape that is entered in its cells
abbrev pub small_tally : (ℕ → ℕ → Bool) → Option Cells → ℕ
small_tally q None = 0
small_tally q (Some c) = cond (is_wide (block_at c)) 0 (in_all q c)

-- by row, and in a row by column
pub record UpTo (e f : Entry) : Type 0 where
  pub rows : e.row ≤ f.row
  pub columns : e.row ≡ f.row → e.column ≤ f.column

pub record Ascends (es : List Entry) : Type 0 where
  pub ascends : (i j : ℕ) → i ≤ j → j < length es → UpTo (entry_at es i) (entry_at es j)

-- before the cell in that row and column
pub record IsBefore (row column : ℕ) (e : Entry) : Type 0 where
  pub rows : e.row ≤ row
  pub columns : e.row ≡ row → e.column < column

-- the cell is among the asked ones
abbrev pub is_in_block : Cells → ℕ → ℕ → Bool
is_in_block asked row column = (nat_le asked.low row && nat_le row asked.high) && (nat_le asked.left column && nat_le column asked.right)

-- the entry lies in the asked cells
abbrev pub inside : Cells → Entry → Bool
inside asked e = is_in_block asked e.row e.column

-- the cell is the first one, by rows, that the shape's own cells and the asked ones share
abbrev pub is_first : Cells → Cells → ℕ → ℕ → Bool
is_first asked own row column = (row == max own.low asked.low) && (column == max own.left asked.left)

abbrev pub is_first_at : Cells → Option Cells → ℕ → ℕ → Bool
is_first_at asked None row column = false
is_first_at asked (Some own) row column = is_first asked own row column

-- the entry lies in the asked cells, and is the first of its shape there
abbrev pub counts : Cells → List (Option Cells) → Entry → Bool
counts asked cells e = inside asked e && is_first_at asked (get_or cells e.position None) e.row e.column

-- the positions that the walk finds, those of the wide list first
abbrev pub found_in : Cells → List (Option Cells) → List ℕ → List Entry → List ℕ
found_in asked cells wide es = wide ++ map (λ e. e.position) (filter (counts asked cells) es)

-- each shape is in the wide list if it is wide, and else once in each of its cells, and nothing else is entered
pub record IsGrid (cells : List (Option Cells)) (wide : List ℕ) (entries : List Entry) : Type 0 where
  pub small : length cells ≤ 4294967295
  pub listed : (v : ℕ) → hits v wide ≡ once (is_wide_at (get_or cells v None))
  pub entered_once : (q : ℕ → ℕ → Bool) (v : ℕ) → entered q v entries ≡ small_tally q (get_or cells v None)
  pub ascending : Ascends entries
