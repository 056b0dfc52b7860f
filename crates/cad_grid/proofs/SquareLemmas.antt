-- Entries of which the squares are marked, and cells of which no square is.
use Rattle.std.proofs.Common.{◌≡◌, ◌⊎◌, ℕ, ◌+◌, ◌/◌, ◌<◌, ◌≤◌, nat_le, Bool, true, false, List, length, inl, inr, refl, sym, subst, arith}
use Rattle.std.proofs.lemmas.Bool.{and_parts}
use Rattle.std.proofs.lemmas.Bool.Decides.{nat_tests}
use Rattle.cad_grid.specs.Entries.{entry_at, inside}
use Rattle.cad_grid.specs.Squares.{AreEntriesMarked, AreFree, place_at}
use Rattle.cad_grid.specs.declared.cells.Cells.{Cells}
use Rattle.cad_grid.specs.declared.entry.Entry.{Entry}
use Rattle.cad_marks.specs.Marked.{IsMarked}
use Rattle.cad_marks.specs.declared.marks.Marks.{Marks}

-- the square of an entry
abbrev pub IsEntryMarked : Marks 64 → Entry → Type 0
IsEntryMarked m e = IsMarked m (place_at (e.row / 8) (e.column / 8))

split : (k n : ℕ) → k < n + 1 → (k ≡ n) ⊎ (k < n)
split k n h = grind arith

-- the first entries, and one more
pub marked_more : (old new : Marks 64) (es : List Entry) (n : ℕ) (e : Entry) → e ≡ entry_at es n → ((k : ℕ) → IsMarked old k → IsMarked new k) → IsEntryMarked new e
    → ((k : ℕ) → k < n → IsEntryMarked old (entry_at es k)) → (k : ℕ) → k < n + 1 → IsEntryMarked new (entry_at es k)
marked_more old new es n e at own more before k h = go (split k n h)
  where
    go : (k ≡ n) ⊎ (k < n) → IsEntryMarked new (entry_at es k)
    go (inl same) = subst (λ j. IsEntryMarked new (entry_at es j)) (sym same) (subst (IsEntryMarked new) at more)
    go (inr less) = own _ (before k less)

eighth : (a b : ℕ) → nat_le a b ≡ true → a / 8 ≤ b / 8
eighth a b h = let less : a ≤ b = grind (arith, nat_tests) in omega arith

-- if no square with some of the cells is marked, no entry lies in them
pub none_inside : (marks : Marks 64) (es : List Entry) (asked : Cells) → AreEntriesMarked marks es → AreFree marks asked → (k : ℕ) → k < length es → inside asked (entry_at es k) ≡ false
none_inside marks es asked marked free k h = go (inside asked (entry_at es k)) refl
  where
    go : (b : Bool) → inside asked (entry_at es k) ≡ b → b ≡ false
    go false i = refl
    go true i =
        let both = and_parts _ _ i in
        let rows = and_parts _ _ both.0 in
        let columns = and_parts _ _ both.1 in
        absurd (free _ (eighth _ _ rows.0) (eighth _ _ rows.1) _ (eighth _ _ columns.0) (eighth _ _ columns.1) (marked k h))
