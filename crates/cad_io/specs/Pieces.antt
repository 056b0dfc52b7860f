-- The pieces in which bytes are read (own profile).
use Rattle.std.specs.Prelude.{ℕ}

-- the most bytes of a read
abbrev pub piece_len : ℕ
piece_len = 4096
