-- What a change leaves alone.
use Rattle.std.proofs.Common.{◌≡◌, ℕ, Bool, true, false, cond, List, [], ◌∷◌, ◌++◌, length, map, take, refl, sym, ap, ap₂, append-nil, ◌∙◌}
use Rattle.std.proofs.Math.Seq.{take-append_seam}
use Rattle.cad_tables.specs.VersionRow.{VersionRow}
use Rattle.cad_tables.specs.Changes.{is_open_of, closed_line, closed_if}
use Rattle.cad_tables.specs.Laws.{unclosed, KeepsLines}
use Rattle.cad_tables.specs.declared.changes.Closing.{Closing}
use Rattle.cad_tables.specs.declared.changes.Change.TheVariants.{Enter, Amend, Retire}

closing_keeps : (c : Closing) (revision : ℕ) (line : VersionRow) (b : Bool) → unclosed (cond b (closed_line c revision line) line) ≡ unclosed line
closing_keeps c revision line true = refl
closing_keeps c revision line false = refl

module _ (f : VersionRow → VersionRow) (keeps : (line : VersionRow) → unclosed (f line) ≡ unclosed line) where
  pub front_kept : (lines more : List VersionRow) → map unclosed (take (length lines) (map f lines ++ more)) ≡ map unclosed lines
  front_kept [] more = refl
  front_kept (line ∷ lines) more = ap₂ ◌∷◌ (keeps line) (front_kept lines more)

pub keeps_lines : {L : Type 0} (line_of : L → VersionRow) → KeepsLines line_of
keeps_lines line_of (Enter line) revision lines = ap (map unclosed) (take-append_seam lines _)
keeps_lines line_of (Amend c line) revision lines = front_kept (closed_if c revision) (λ l. closing_keeps c revision l (is_open_of c.object l)) lines _
keeps_lines line_of (Retire c) revision lines =
    ap (λ l. map unclosed (take (length lines) l)) (sym (append-nil (map (closed_if c revision) lines))) ∙ front_kept (closed_if c revision) (λ l. closing_keeps c revision l (is_open_of c.object l)) lines []
