-- The first line of a request (RFC 9112, 2.2: empty lines before it are skipped; own profile: a CR alone ends it as well).
use Rattle.std.specs.Prelude.{ℕ, ◌||◌, ◌==◌, Bool, List, [], ◌∷◌, cond}

-- CR or LF
abbrev pub ends_line : ℕ → Bool
ends_line byte = (byte == 13) || (byte == 10)

-- what was read, beginning with the first byte of a line
abbrev pub begun : List ℕ → List ℕ
begun [] = []
begun (b ∷ bs) = cond (ends_line b) (begun bs) (b ∷ bs)

-- the part before the end of the line
abbrev pub line_of : List ℕ → List ℕ
line_of [] = []
line_of (b ∷ bs) = cond (ends_line b) [] (b ∷ line_of bs)
