-- Places ascend in the order of reading (own profile).
use Rattle.std.specs.Prelude.{ℕ, ◌≤◌, ◌+◌, List, [], ◌∷◌}
use Rattle.std.specs.Coded.{le_prop}
use Rattle.std.proofs.Common.{refl, ap₂}
use Rattle.cql_lexer.specs.Mark.{Mark, at}

-- the places of the tokens ascend from the first on
abbrev pub Ascend : ℕ → List Mark → Type 0
Ascend first [] = Unit {0}
Ascend first (at place sort ∷ tokens) = (first ≤ place) × Ascend (place + 1) tokens

-- a property with only one proof, so that a type can keep it
pub ascend_prop : (first : ℕ) (tokens : List Mark) → IsProp (Ascend first tokens)
ascend_prop first [] p q = refl
ascend_prop first (at place sort ∷ tokens) p q = ap₂ (λ (a : first ≤ place) (b : Ascend (place + 1) tokens). (a, b)) (le_prop p.0 q.0) (ascend_prop (place + 1) tokens p.1 q.1)
