-- How tokens are spelled: each rule says which bytes at the front of a list spell a token, and which bytes are left.
use Rattle.std.specs.Prelude.{◌≡◌, ℕ, ◌-◌, ◌≤◌, Bool, true, ◌==◌, ◌||◌, List, [], ◌∷◌, length}
use Rattle.std.specs.Str.{byte}
use Rattle.cql_lexer.specs.Mark.{Sort, Mark, at, name, text, number}
use Rattle.cql_lexer.specs.Runs.{Run}
use Rattle.cql_lexer.specs.Symbols.{IsSymbol}
use Rattle.cql_lexer.specs.Names.{is_name_start, is_name_part, is_unquoted, bare}
use Rattle.cql_lexer.specs.Numbers.{IsNumber}
use Rattle.cql_lexer.specs.Texts.{IsContent}

-- the first bytes spell a token of this sort, and these bytes are left
pub data IsToken : List ℕ → Sort → List ℕ → Type 0 where
  symbol_token : {xs : List ℕ} {s : Sort} {ys : List ℕ} → IsSymbol xs s ys → IsToken xs s ys
  number_token : {xs spelling ys : List ℕ} → IsNumber xs spelling ys → IsToken xs (number spelling) ys
  bare_token : {x : ℕ} {xs run ys : List ℕ} → is_name_start x ≡ true → Run is_name_part xs run ys → IsToken (x ∷ xs) (bare (x ∷ run)) ys
  quoted_token : {xs run ys : List ℕ} → Run is_unquoted xs run (byte "\"" ∷ ys) → IsToken (byte "\"" ∷ xs) (name run) ys
  text_token : {xs content ys : List ℕ} → IsContent xs content ys → IsToken (byte "'" ∷ xs) (text content) ys

-- the first bytes spell a token, and no token that begins there is longer (own profile)
pub record IsLongest (xs : List ℕ) (s : Sort) (ys : List ℕ) : Type 0 where
  pub token : IsToken xs s ys
  pub longest : (t : Sort) (zs : List ℕ) → IsToken xs t zs → length ys ≤ length zs

-- no first bytes spell a token
abbrev pub IsNoToken : List ℕ → Type 0
IsNoToken xs = (t : Sort) (zs : List ℕ) → IsToken xs t zs → ⊥

-- white space between tokens: space, tab, carriage return and line feed alone (own profile)
abbrev pub is_blank : ℕ → Bool
is_blank x = (x == byte " ") || (x == byte "\t") || (x == byte "\r") || (x == byte "\n")

-- Blanks and these tokens lead from the first bytes to those that are left, in a text of `size` bytes.
-- A token's place is the number of bytes before it.
pub data Leads (size : ℕ) : List ℕ → List Mark → List ℕ → Type 0 where
  here : {xs : List ℕ} → Leads size xs [] xs
  blank : {x : ℕ} {xs ys : List ℕ} {marks : List Mark} → is_blank x ≡ true → Leads size xs marks ys → Leads size (x ∷ xs) marks ys
  token_first : {xs ys zs : List ℕ} {s : Sort} {marks : List Mark} → IsLongest xs s ys → Leads size ys marks zs → Leads size xs (at (size - length xs) s ∷ marks) zs

-- the text is these tokens, with blanks or nothing around them; each token is at its place and the longest there
abbrev pub Spells : List ℕ → List Mark → Type 0
Spells bytes tokens = Leads (length bytes) bytes tokens []
