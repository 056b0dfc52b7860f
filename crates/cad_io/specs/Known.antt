-- What is read and written, if it is known (own profile).
use Rattle.std.specs.Prelude.{ℕ, List, Option}
use Rattle.std.specs.Io.KnownBytes.{Consumes, Appends}

-- known bytes written are so
abbrev pub Writes : Option (List ℕ) → Option (List ℕ) → (List ℕ → Type 0) → Type 0
Writes old new P = (written : List ℕ) × Appends old new written × P written

-- known bytes read and known bytes written are so related
abbrev pub ReadsAndWrites : Option (List ℕ) → Option (List ℕ) → Option (List ℕ) → Option (List ℕ) → (List ℕ → List ℕ → Type 0) → Type 0
ReadsAndWrites from to old new P =
    (read : List ℕ) × (written : List ℕ) × Consumes from to read × Appends old new written × P read written
