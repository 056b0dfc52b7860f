-- Printable bytes of ASCII (RFC 20, section 4: the graphic characters and the space).
use Rattle.std.specs.Prelude.{◌≡◌, ℕ, ◌&&◌, Bool, true, List, nat_le}
use Rattle.std.specs.List.{list_all}

abbrev pub is_printable : ℕ → Bool
is_printable byte = nat_le 32 byte && nat_le byte 126

-- all bytes are printable
abbrev pub ArePrintable : List ℕ → Type 0
ArePrintable bytes = list_all is_printable bytes ≡ true

-- if all bytes were printable before, all are afterwards
abbrev pub StaysPrintable : List ℕ → List ℕ → Type 0
StaysPrintable old new = ArePrintable old → ArePrintable new
