-- How texts are spelled: `characterLiteral` of CQL2's grammar (OGC 21-065r2, Annex B), with the project's own profile of quotes and backslashes.
use Rattle.std.specs.Prelude.{◌≡◌, ℕ, false, ◌==◌, List, [], ◌∷◌}
use Rattle.std.specs.Str.{byte}

-- no quote comes first
abbrev pub IsNoQuote : List ℕ → Type 0
IsNoQuote [] = Unit {0}
IsNoQuote (x ∷ xs) = (x == byte "'") ≡ false

-- The first bytes spell this character, and these bytes are left:
-- `''` and `\'` spell a quote, and every other byte spells itself.
pub data IsCharacter : List ℕ → ℕ → List ℕ → Type 0 where
  doubled_quote : {xs : List ℕ} → IsCharacter (byte "'" ∷ byte "'" ∷ xs) (byte "'") xs
  escaped_quote : {xs : List ℕ} → IsCharacter (byte "\\" ∷ byte "'" ∷ xs) (byte "'") xs
  backslash : {xs : List ℕ} → IsNoQuote xs → IsCharacter (byte "\\" ∷ xs) (byte "\\") xs
  itself : {x : ℕ} {xs : List ℕ} → (x == byte "'") ≡ false → (x == byte "\\") ≡ false → IsCharacter (x ∷ xs) x xs

-- behind the opening quote: the spelling of this content, the closing quote, which has no quote behind it, and the bytes left
pub data IsContent : List ℕ → List ℕ → List ℕ → Type 0 where
  closing_quote : {xs : List ℕ} → IsNoQuote xs → IsContent (byte "'" ∷ xs) [] xs
  character : {x : ℕ} {xs ys content zs : List ℕ} → IsCharacter xs x ys → IsContent ys content zs → IsContent xs (x ∷ content) zs
