-- Places that are marked, by one bit each (own profile).
use Rattle.std.specs.Prelude.{◌≡◌, ℕ, ◌/◌, ◌%◌, get_or}
use Rattle.std.specs.Int.{bit_at}
use Rattle.cad_marks.specs.declared.marks.Marks.{Marks}

-- the bit of the place is set
abbrev pub IsMarked : {words : ℕ} → Marks words → ℕ → Type 0
IsMarked m k = bit_at (get_or m.words.items (k / 64) 0) (k % 64) ≡ 1
