-- With which characters texts begin and end, and patterns.
use Rattle.std.specs.Prelude.{◌≡◌, ℕ, List, [], ◌∷◌, ◌++◌}
use Rattle.cql_text.specs.Patterns.{Piece, exactly}

abbrev pub BeginsWith : ℕ → List ℕ → Type 0
BeginsWith c text = (rest : List ℕ) × (text ≡ c ∷ rest)

abbrev pub EndsWith : ℕ → List ℕ → Type 0
EndsWith c text = (front : List ℕ) × (text ≡ front ++ c ∷ [])

-- the first part of a pattern matches exactly this character
abbrev pub BeginsExactly : ℕ → List Piece → Type 0
BeginsExactly c parts = (rest : List Piece) × (parts ≡ exactly c ∷ rest)

-- the last part does
abbrev pub EndsExactly : ℕ → List Piece → Type 0
EndsExactly c parts = (front : List Piece) × (parts ≡ front ++ exactly c ∷ [])
