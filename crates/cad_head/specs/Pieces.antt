-- Pieces that follow an incomplete head (RFC 9112, section 2.2: a head ends with an empty line; looking only at ends of lines: own
-- profile).
use Rattle.std.specs.Prelude.{ℕ, ◌+◌, Bool, ◌||◌, ◌==◌, nat_le, List, length}
use Rattle.std.specs.List.{list_any}
use Rattle.cad_head.specs.Heads.{front_len}

-- the piece contains the end of a line, or fills the front
abbrev pub may_settle : List ℕ → List ℕ → Bool
may_settle held piece = list_any (λ b. b == 10) piece || nat_le front_len (length held + length piece)
