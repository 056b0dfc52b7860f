-- Fronts that are known, and what they say of the positions that are left.
use Rattle.std.specs.Prelude.{ℕ, Bool, true, false, ◌&&◌, ◌||◌, ◌==◌, nat_lt, Option, Some, None}
use Rattle.cad_positions.specs.declared.front.Front.{Front}
use Rattle.cad_positions.specs.declared.front.Front.TheVariants.{Unknown, At, Spent}

-- the front, after it was looked for
abbrev pub front_of : Option ℕ → Front
front_of None = Spent
front_of (Some row) = At row

-- the position that was found, if one was
abbrev pub found_of : Front → Option ℕ
found_of Unknown = None
found_of (At row) = Some row
found_of Spent = None

-- another position may be the front from `from` on
abbrev pub is_before : Front → ℕ → Bool
is_before Unknown from = true
is_before (At row) from = nat_lt row from
is_before Spent from = false

-- the positions left of a source with that front: the front, and those that come after it
abbrev pub behind : Front → (ℕ → Bool) → ℕ → Bool
behind Unknown left k = left k
behind (At row) left k = (k == row) || (nat_lt row k && left k)
behind Spent left k = false
