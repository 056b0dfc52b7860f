-- The request heads at the front of a connection's bytes (RFC 9112, section 2.1: message format).
use Rattle.std.specs.Prelude.{◌≡◌, ℕ, ◌≤◌, ◌<◌, ◌++◌, List, length}
use Rattle.httparse.specs.Grammar.{RequestHead, print_request, ReadsRequest}

-- how many bytes a head may have (RFC 9112, section 3: a limit of the server's own; own profile)
abbrev pub front_len : ℕ
front_len = 32768

-- how many fields a head may have (RFC 9110, section 5.4: a limit of the server's own; own profile)
abbrev pub field_room : ℕ
field_room = 64

-- the bytes are this head, which is within both limits, and the rest after it
pub record Fits (bytes : List ℕ) (head : RequestHead) (rest : List ℕ) : Type 0 where
  pub reads : ReadsRequest bytes head rest
  pub in_front : length (print_request head) ≤ front_len
  pub in_room : length head.fields ≤ field_room

-- the bytes begin with no head that is within the limits
abbrev pub HasNone : List ℕ → Type 0
HasNone bytes = (head : RequestHead) (rest : List ℕ) → ¬ (Fits bytes head rest)

-- these bytes, with any bytes after them, begin with no head that is within the limits
abbrev pub IsHopeless : List ℕ → Type 0
IsHopeless bytes = (more : List ℕ) → HasNone (bytes ++ more)

-- a head may still be waited for: the front is not full, and no head is there, not even one of too many fields
abbrev pub MayWait : List ℕ → Type 0
MayWait bytes =
    (length bytes < front_len)
    × ((head : RequestHead) (rest : List ℕ) → ¬ (ReadsRequest bytes head rest))

-- the bytes begin with no head, and may still become one
abbrev pub IsIncomplete : List ℕ → Type 0
IsIncomplete bytes = HasNone bytes × MayWait bytes

-- bytes begin with at most one head
abbrev pub HaveOneHead : Type 0
HaveOneHead =
    (bytes : List ℕ) (head other : RequestHead) (rest left : List ℕ)
    → Fits bytes head rest → Fits bytes other left → (head ≡ other) × (rest ≡ left)

-- bytes that follow become part of the rest
abbrev pub HeadsStay : Type 0
HeadsStay =
    (bytes : List ℕ) (head : RequestHead) (rest more : List ℕ)
    → Fits bytes head rest → Fits (bytes ++ more) head (rest ++ more)
