-- What a command's change makes of the lines.
use Rattle.std.specs.Prelude.{◌≡◌, ℕ, pos, ◌&&◌, Bool, if◌then◌else◌, List, [], ◌∷◌, ◌++◌, map, filter, Some, is_none}
use Rattle.std.specs.Ordering.{int_eq}
use Rattle.cad_tables.specs.VersionRow.{VersionRow}
use Rattle.cad_tables.specs.declared.changes.Closing.{Closing}
use Rattle.cad_tables.specs.declared.changes.Change.{Change}
use Rattle.cad_tables.specs.declared.changes.Change.TheVariants.{Enter, Amend, Retire}

-- own profile: the line is of the object, and has no last day yet
abbrev pub is_open_of : ℕ → VersionRow → Bool
is_open_of object line = int_eq (pos line.object) (pos object) && is_none line.last

-- own profile: the line, closed by a revision
abbrev pub closed_line : Closing → ℕ → VersionRow → VersionRow
closed_line c revision line = record line { last = Some c.last; closed = Some revision }

abbrev pub closed_if : Closing → ℕ → VersionRow → VersionRow
closed_if c revision line = if is_open_of c.object line then closed_line c revision line else line

-- own profile: a change adds a line at the end, closes the open line of an object, or both
abbrev pub changed : {L : Type 0} → (L → VersionRow) → Change L → ℕ → List VersionRow → List VersionRow
changed line_of (Enter line) revision lines = lines ++ line_of line ∷ []
changed line_of (Amend c line) revision lines = map (closed_if c revision) lines ++ line_of line ∷ []
changed line_of (Retire c) revision lines = map (closed_if c revision) lines

-- own profile: the object has one open line
abbrev pub NamesOne : Closing → List VersionRow → Type 0
NamesOne c lines = (line : VersionRow) × (filter (is_open_of c.object) lines ≡ line ∷ [])

-- own profile: what a change closes is open
abbrev pub Fits : {L : Type 0} → Change L → List VersionRow → Type 0
Fits (Enter line) lines = Unit {0}
Fits (Amend c line) lines = NamesOne c lines
Fits (Retire c) lines = NamesOne c lines
