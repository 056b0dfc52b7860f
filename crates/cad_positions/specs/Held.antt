-- The positions of a list, and those of a range of ranks.
use Rattle.std.specs.Prelude.{ℕ, Bool, ◌&&◌, List, ◌==◌, drop, nat_lt, slice_index}
use Rattle.std.specs.List.{list_any}
use Rattle.cad_positions.specs.Rankings.{is_between}

-- the list has the position
abbrev pub is_among : List ℕ → ℕ → Bool
is_among rows k = list_any (λ r. r == k) rows

-- the list has it from a place on
abbrev pub is_left : List ℕ → ℕ → ℕ → Bool
is_left rows at = is_among (drop at rows)

-- below an end, and its rank lies from one on, below another
abbrev pub has_rank : ℕ → List ℕ → ℕ → ℕ → ℕ → Bool
has_rank end ranks from to k = nat_lt k end && is_between from to (slice_index ranks k)
