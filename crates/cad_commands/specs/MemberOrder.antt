-- JSON texts that differ only in the order of members (RFC 8259, section 4: an object is unordered).
use Rattle.std.specs.Prelude.{◌≡◌, ◌≢◌, ℕ, List, Option, Some}
use Rattle.std.specs.Option.{option_and_then}
use Rattle.json.specs.Json.{Json, object, Members, member, value, if_last}
use Rattle.json.specs.Lex.{tokens}
use Rattle.serde_json.specs.Read.{max_depth}

-- two members with different names exchanged, in the object or in one that it holds, as often as needed
pub data SameButForOrder : Json → Json → Type 0 where
  itself : {j : Json} → SameButForOrder j j
  exchanged : {name other : List ℕ} {j k : Json} {ms : Members} → name ≢ other
      → SameButForOrder (object (member name j (member other k ms))) (object (member other k (member name j ms)))
  behind : {name : List ℕ} {j : Json} {ms ns : Members} → SameButForOrder (object ms) (object ns)
      → SameButForOrder (object (member name j ms)) (object (member name j ns))
  inside : {name : List ℕ} {j k : Json} {ms : Members} → SameButForOrder j k
      → SameButForOrder (object (member name j ms)) (object (member name k ms))
  again : {i j k : Json} → SameButForOrder i j → SameButForOrder j k → SameButForOrder i k

-- the value that a text is, its members in the order in which they are written
abbrev pub written : List ℕ → Option Json
written text = option_and_then (λ p. if_last p.0 p.1) (value max_depth (tokens text))

abbrev pub DifferInOrder : List ℕ → List ℕ → Type 0
DifferInOrder text other =
    (j : Json) × (k : Json) × (written text ≡ Some j) × (written other ≡ Some k) × SameButForOrder j k
