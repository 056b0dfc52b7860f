-- The result of reading the tokens of a text.
use Rattle.std.specs.Prelude.{◌≡◌, ℕ, ◌-◌, ◌<◌, ◌≤◌, Bool, false, ◌==◌, ◌||◌, ◌⊎◌, List, ◌∷◌, Result, Ok, Err, length}
use Rattle.std.specs.Str.{byte}
use Rattle.cql_lexer.specs.Mark.{Sort, Mark, marks}
use Rattle.cql_lexer.specs.Runs.{Run}
use Rattle.cql_lexer.specs.Names.{is_unquoted}
use Rattle.cql_lexer.specs.Texts.{IsContent}
use Rattle.cql_lexer.specs.Spelling.{IsLongest, IsNoToken, Leads, Spells, is_blank}
use Rattle.cql_lexer.specs.declared.fault.LexFault.{LexFault}
use Rattle.cql_lexer.specs.declared.fault.LexFault.TheVariants.{At, Memory}
use Rattle.cql_lexer.specs.declared.fault.SpellingFault.{SpellingFault}
use Rattle.cql_lexer.specs.declared.fault.SpellingFault.TheVariants.{Unterminated, StrangeCharacter, TooLong, TooMany}
use Rattle.cql_lexer.specs.declared.token.Tokens.{Tokens}

-- the text is spelled by these tokens, and is within the limits (own profile)
pub record IsSpelt (bytes : List ℕ) (tokens : List Mark) : Type 0 where
  pub spells : Spells bytes tokens
  pub few_bytes : length bytes ≤ 8192
  pub few_tokens : length tokens ≤ 2000

-- ---- the faults of a text (own profile)

-- a text within the limit of bytes: behind blanks and these tokens, these bytes are left from this place on
pub record Reaches (bytes : List ℕ) (tokens : List Mark) (place : ℕ) (left : List ℕ) : Type 0 where
  pub leads : Leads (length bytes) bytes tokens left
  pub place_is : place ≡ length bytes - length left
  pub few_bytes : length bytes ≤ 8192
  pub few_tokens : length tokens ≤ 2000

-- a quote comes first, and none that closes it follows
pub data IsUnclosed : List ℕ → Type 0 where
  unclosed_text : {xs : List ℕ} → ((content ys : List ℕ) → ¬ (IsContent xs content ys)) → IsUnclosed (byte "'" ∷ xs)
  unclosed_name : {xs : List ℕ} → ((name ys : List ℕ) → ¬ (Run is_unquoted xs name (byte "\"" ∷ ys))) → IsUnclosed (byte "\"" ∷ xs)

abbrev pub is_quote : ℕ → Bool
is_quote x = (x == byte "'") || (x == byte "\"")

-- a character comes first that is neither a blank nor a quote, and no token begins with it
pub data IsStrange : List ℕ → Type 0 where
  strange : {x : ℕ} {xs : List ℕ} → is_blank x ≡ false → is_quote x ≡ false → IsNoToken (x ∷ xs) → IsStrange (x ∷ xs)

-- a quote at this place is never closed
pub record IsUnterminated (bytes : List ℕ) (place : ℕ) : Type 0 where
  pub tokens : List Mark
  pub left : List ℕ
  pub reaches : Reaches bytes tokens place left
  pub unclosed : IsUnclosed left

-- the character at this place begins no token
pub record HasStrangeCharacter (bytes : List ℕ) (place : ℕ) : Type 0 where
  pub tokens : List Mark
  pub left : List ℕ
  pub reaches : Reaches bytes tokens place left
  pub is_strange : IsStrange left

-- a token begins at this place, behind as many as a text may have
pub record HasTooMany (bytes : List ℕ) (place : ℕ) : Type 0 where
  pub tokens : List Mark
  pub left : List ℕ
  pub reaches : Reaches bytes tokens place left
  pub full : length tokens ≡ 2000
  pub sort : Sort
  pub next : List ℕ
  pub token : IsLongest left sort next

-- the text has the fault
abbrev pub HasFault : List ℕ → SpellingFault → Type 0
HasFault bytes (Unterminated place) = IsUnterminated bytes place
HasFault bytes (StrangeCharacter place) = HasStrangeCharacter bytes place
HasFault bytes (TooLong place) = (8192 < length bytes) × (place ≡ 8192)
HasFault bytes (TooMany place) = HasTooMany bytes place

-- ---- answers

-- The tokens that spell the text and its length, or its fault.
-- If memory ran out, nothing is said of the text.
abbrev pub Answers : List ℕ → Result Tokens LexFault → Type 0
Answers bytes (Ok t) = IsSpelt bytes (marks t.list.items) × (t.end ≡ length bytes)
Answers bytes (Err Memory) = Unit {0}
Answers bytes (Err (At fault)) = HasFault bytes fault

-- the answer is as said, unless memory ran out
abbrev pub OrMemory : Result Tokens LexFault → Type 0 → Type 0
OrMemory result said = (result ≡ Err Memory) ⊎ said
