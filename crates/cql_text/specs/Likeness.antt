-- Which texts are like a pattern, both as code points (OGC 21-065r2, requirements class Advanced Comparison Operators: LIKE; the escape: own profile).
use Rattle.std.specs.Prelude.{◌≢◌, ℕ, List, [], ◌∷◌, ◌++◌}

-- 37 is %, 95 is _ and 92 is \
pub data IsLike : List ℕ → List ℕ → Type 0 where
  nothing : IsLike [] []
  any_number : (pattern u v : List ℕ) → IsLike pattern v → IsLike (37 ∷ pattern) (u ++ v)
  just_one : (c : ℕ) (pattern v : List ℕ) → IsLike pattern v → IsLike (95 ∷ pattern) (c ∷ v)
  escaped : (c : ℕ) (pattern v : List ℕ) → IsLike pattern v → IsLike (92 ∷ c ∷ pattern) (c ∷ v)
  last_escape : IsLike (92 ∷ []) (92 ∷ [])
  itself : (c : ℕ) (pattern v : List ℕ) → c ≢ 37 → c ≢ 95 → c ≢ 92 → IsLike pattern v → IsLike (c ∷ pattern) (c ∷ v)
