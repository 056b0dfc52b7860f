-- Lines of bytes, each ended by LF, of which the empty ones ask for nothing (own profile).
use Rattle.std.specs.Prelude.{◌≡◌, ℕ, ◌<◌, ◌≤◌, ◌==◌, Bool, not, List, length}
use Rattle.std.specs.List.{filter, slice_split, before_last, after_last}
use Rattle.cad_office.specs.declared.line.Line.{Line}
use Rattle.cad_office.specs.declared.line.LineState.{LineState}
use Rattle.cad_office.specs.declared.line.LineState.TheVariants.{Buffered, TooLong, OutOfMemory}

-- the byte that ends a line
abbrev pub is_lf : ℕ → Bool
is_lf byte = byte == 10

-- an empty line asks for nothing
abbrev pub is_filled : List ℕ → Bool
is_filled line = not (length line == 0)

-- the parts between LFs that are not empty; the last one needs no LF
unfoldable pub lines_in : List ℕ → List (List ℕ)
lines_in bytes = filter is_filled (slice_split is_lf bytes)

-- those that an LF ended
unfoldable pub lines_ended : List ℕ → List (List ℕ)
lines_ended bytes = lines_in (before_last is_lf bytes)

-- the bytes after the last LF: the line that has begun
unfoldable pub line_begun : List ℕ → List ℕ
line_begun bytes = after_last is_lf bytes

-- the most bytes that a command's line has
abbrev pub longest_line : ℕ
longest_line = 65536

-- what the line holds of the bytes that were read of it
abbrev pub Buffers : List ℕ → List ℕ → LineState → Type 0
Buffers text held Buffered = (held ≡ text) × (length text ≤ longest_line)
Buffers text held TooLong = longest_line < length text
Buffers text held (OutOfMemory count) = (count ≡ length text) × (0 < length text) × (length text ≤ longest_line)

-- the same of the line as it is held
abbrev pub BuffersLine : List ℕ → Line → Type 0
BuffersLine text line = Buffers text line.bytes.items line.state
