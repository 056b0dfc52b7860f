-- What is left of a tree of sources from a position on.
use Rattle.std.specs.Prelude.{ℕ, Bool, ◌&&◌, nat_le}
use Rattle.cad_positions.specs.declared.rows.Rows.{Rows}
use Rattle.cad_positions.specs.Has.{has}

-- what the tree has, from the position on that was reached or sought
abbrev pub left_in : Rows → ℕ → Bool
left_in s k = has s.source k && nat_le s.from k
