-- Squares of eight by eight cells, and which of them are marked (own profile). Squares 64 rows or columns apart, or a multiple of that, have the same place.
use Rattle.std.specs.Prelude.{◌<◌, ◌≤◌, ℕ, ◌+◌, ◌*◌, ◌/◌, ◌%◌, List, length}
use Rattle.cad_grid.specs.declared.cells.Cells.{Cells}
use Rattle.cad_grid.specs.Entries.{entry_at}
use Rattle.cad_grid.specs.declared.entry.Entry.{Entry}
use Rattle.cad_marks.specs.Marked.{IsMarked}
use Rattle.cad_marks.specs.declared.marks.Marks.{Marks}

-- the place of the square in this row and column of squares
abbrev pub place_at : ℕ → ℕ → ℕ
place_at row column = (row % 64) * 64 + column % 64

-- each square of the row in these columns is marked
abbrev pub IsRowMarked : Marks 64 → ℕ → ℕ → ℕ → Type 0
IsRowMarked m row first last = (column : ℕ) → first ≤ column → column ≤ last → IsMarked m (place_at row column)

-- each square that has some of the cells is marked
abbrev pub AreMarked : Marks 64 → Cells → Type 0
AreMarked m cells = (row : ℕ) → cells.low / 8 ≤ row → row ≤ cells.high / 8 → IsRowMarked m row (cells.left / 8) (cells.right / 8)

-- no square of the row in these columns is marked
abbrev pub IsRowFree : Marks 64 → ℕ → ℕ → ℕ → Type 0
IsRowFree m row first last = (column : ℕ) → first ≤ column → column ≤ last → IsMarked m (place_at row column) → ⊥

-- no square that has some of the cells is marked
abbrev pub AreFree : Marks 64 → Cells → Type 0
AreFree m cells = (row : ℕ) → cells.low / 8 ≤ row → row ≤ cells.high / 8 → IsRowFree m row (cells.left / 8) (cells.right / 8)

-- the square of each entry is marked
abbrev pub AreEntriesMarked : Marks 64 → List Entry → Type 0
AreEntriesMarked m es = (k : ℕ) → k < length es → IsMarked m (place_at ((entry_at es k).row / 8) ((entry_at es k).column / 8))
