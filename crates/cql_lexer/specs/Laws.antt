-- What holds of every spelling.
use Rattle.std.specs.Prelude.{◌≡◌, ℕ, ◌+◌, ◌<◌, ◌≤◌, ◌⊎◌, List, [], ◌∷◌, length, drop}
use Rattle.cql_lexer.specs.Lexed.{IsSpelt, HasFault}
use Rattle.cql_lexer.specs.Mark.{Mark, at}
use Rattle.cql_lexer.specs.Spelling.{IsLongest, Spells}
use Rattle.cql_lexer.specs.declared.fault.SpellingFault.{SpellingFault}

-- a text has one list of tokens
abbrev pub HasOneSpelling : Type 0
HasOneSpelling = (bytes : List ℕ) (these those : List Mark) → Spells bytes these → Spells bytes those → these ≡ those

-- the places ascend from the first on, and each lies before the end
abbrev pub AscendWithin : ℕ → ℕ → List Mark → Type 0
AscendWithin first end [] = Unit {0}
AscendWithin first end (at place sort ∷ tokens) = (first ≤ place) × (place < end) × AscendWithin (place + 1) end tokens

-- each token begins within the text, behind the one before it
abbrev pub HasPlacesInOrder : Type 0
HasPlacesInOrder = (bytes : List ℕ) (tokens : List Mark) → Spells bytes tokens → AscendWithin 0 (length bytes) tokens

-- each token is the longest that begins in the text at its place
abbrev pub StandAtPlaces : List ℕ → List Mark → Type 0
StandAtPlaces bytes [] = Unit {0}
StandAtPlaces bytes (at place sort ∷ tokens) = ((left : List ℕ) × IsLongest (drop place bytes) sort left) × StandAtPlaces bytes tokens

-- a token is spelled in the text from its place on
abbrev pub HasTokensAtPlaces : Type 0
HasTokensAtPlaces = (bytes : List ℕ) (tokens : List Mark) → Spells bytes tokens → StandAtPlaces bytes tokens

-- a text with a fault has no tokens
abbrev pub HasFaultOrTokens : Type 0
HasFaultOrTokens = (bytes : List ℕ) (fault : SpellingFault) (tokens : List Mark) → HasFault bytes fault → ¬ (IsSpelt bytes tokens)

-- a text has at most one fault
abbrev pub HasOneFault : Type 0
HasOneFault = (bytes : List ℕ) (fault other : SpellingFault) → HasFault bytes fault → HasFault bytes other → fault ≡ other

-- each text has tokens within the limits, or a fault
abbrev pub HasTokensOrFault : Type 0
HasTokensOrFault = (bytes : List ℕ) → ((tokens : List Mark) × IsSpelt bytes tokens) ⊎ ((fault : SpellingFault) × HasFault bytes fault)
