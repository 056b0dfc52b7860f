-- Tables of spellings.
use Rattle.std.specs.Prelude.{ℕ, Bool, Option, Some, None, List, [], ◌∷◌, if◌then◌else◌}

-- the table's entry for the first spelling that counts as this one
abbrev pub entry_of : {A : Type 0} → (List ℕ → List ℕ → Bool) → List (List ℕ × A) → List ℕ → Option A
entry_of same [] spelling = None
entry_of same (entry ∷ entries) spelling = if same spelling entry.0 then Some entry.1 else entry_of same entries spelling
