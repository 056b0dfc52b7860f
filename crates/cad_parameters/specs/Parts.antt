-- Splitting a text.
use Rattle.std.specs.Prelude.{ℕ, Bool, ◌==◌, nat_lt, List, length, Option, Some, None, if◌then◌else◌}
use Rattle.std.specs.List.{position_or_len, before_first, after_first}

abbrev pub is_byte : ℕ → ℕ → Bool
is_byte byte other = other == byte

-- the text before and the text after the first such byte, if there is one
abbrev pub parted : ℕ → List ℕ → Option (List ℕ × List ℕ)
parted byte text =
    if nat_lt (position_or_len (is_byte byte) text) (length text)
    then Some (before_first (is_byte byte) text, after_first (is_byte byte) text) else None
