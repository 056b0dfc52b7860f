-- What a change leaves as it was.
use Rattle.std.specs.Prelude.{◌≡◌, ℕ, List, length, map, take, None}
use Rattle.cad_tables.specs.VersionRow.{VersionRow}
use Rattle.cad_tables.specs.Changes.{changed}
use Rattle.cad_tables.specs.declared.changes.Change.{Change}

-- own profile: a line without whether and when it was closed
abbrev pub unclosed : VersionRow → VersionRow
unclosed line = record line { last = None; closed = None }

-- ISO 19152, VersionedObject: a change removes no line, moves none, and changes nothing but the closing of those that were there
abbrev pub KeepsLines : {L : Type 0} → (L → VersionRow) → Type 0
KeepsLines {L} line_of =
    (change : Change L) (revision : ℕ) (lines : List VersionRow) → map unclosed (take (length lines) (changed line_of change revision lines)) ≡ map unclosed lines
