-- The front of a pattern, and the range of the texts that begin with a front (own profile).
use Rattle.std.specs.Prelude.{◌≡◌, ◌↔◌, ℕ, ◌+◌, ◌==◌, ◌&&◌, List, [], ◌∷◌, Bool, true, false, if◌then◌else◌, Option, Some, None, option_map, chars, string_bytes, String}
use Rattle.std.specs.Str.{all_scalars}
use Rattle.std.specs.declared.cmp.Ordering.TheVariants.{Less}
use Rattle.std.specs.Ordering.{is_le}
use Rattle.cql_text.specs.Order.{text_cmp}
use Rattle.cql_text.specs.Patterns.{Piece, any, one, exactly, like_test, pieces}

-- a string's characters
abbrev pub text_of : {A : Type 0} → String A → List ℕ
text_of s = chars (string_bytes s)

-- ---- the front of a pattern

-- the characters before the first part that matches others
abbrev pub front_of : List Piece → List ℕ
front_of [] = []
front_of (any ∷ p) = []
front_of (one ∷ p) = []
front_of (exactly c ∷ p) = c ∷ front_of p

-- the parts from there on
abbrev pub after_front : List Piece → List Piece
after_front [] = []
after_front (any ∷ p) = any ∷ p
after_front (one ∷ p) = one ∷ p
after_front (exactly c ∷ p) = after_front p

abbrev pub is_all_any : List Piece → Bool
is_all_any [] = true
is_all_any (any ∷ p) = is_all_any p
is_all_any (one ∷ p) = false
is_all_any (exactly c ∷ p) = false

-- parts that match any number, at least one
abbrev pub is_open : List Piece → Bool
is_open [] = false
is_open (any ∷ p) = is_all_any p
is_open (one ∷ p) = false
is_open (exactly c ∷ p) = false

-- the first part, if any, does not match exactly one given character
abbrev pub NoneExact : List Piece → Type 0
NoneExact [] = Unit {0}
NoneExact (any ∷ p) = Unit {0}
NoneExact (one ∷ p) = Unit {0}
NoneExact (exactly c ∷ p) = ⊥

pub record IsFrontOf (p : List Piece) (text : List ℕ) (alone : Bool) : Type 0 where
  pub front : text ≡ front_of p
  pub rest : alone ≡ is_open (after_front p)

-- ---- the texts that begin with a front

abbrev pub begins_with : List ℕ → List ℕ → Bool
begins_with [] text = true
begins_with (c ∷ front) [] = false
begins_with (c ∷ front) (d ∷ text) = c == d && begins_with front text

abbrev pub IsBelow : List ℕ → Option (List ℕ) → Type 0
IsBelow text None = Unit {0}
IsBelow text (Some end) = text_cmp text end ≡ Less

-- from low on, and below the end if there is one
abbrev pub LiesBetween : List ℕ → Option (List ℕ) → List ℕ → Type 0
LiesBetween low end text = (is_le (text_cmp low text) ≡ true) × IsBelow text end

-- the texts from the front on, below the end, are those that begin with the front
abbrev pub IsFrontRange : List ℕ → Option (List ℕ) → Type 0
IsFrontRange front end = (text : List ℕ) → all_scalars text ≡ true → (begins_with front text ≡ true) ↔ LiesBetween front end text

-- the next character, past the gap of the surrogates
abbrev pub next_scalar : ℕ → Option ℕ
next_scalar c = if c == 55295 then Some 57344 else (if c == 1114111 then None else Some (c + 1))

abbrev pub onward : ℕ → Option (List ℕ) → Option (List ℕ)
onward c None = option_map (λ d. d ∷ []) (next_scalar c)
onward c (Some end) = Some (c ∷ end)

-- the last character that has a next one becomes that one, and the characters after it are removed
abbrev pub next_front : List ℕ → Option (List ℕ)
next_front [] = None
next_front (c ∷ front) = onward c (next_front front)

-- every text that is like the pattern lies in the range of its front, and if only parts for any number follow the front, no other text does
pub record IsLikeRange (pattern low : List ℕ) (end : Option (List ℕ)) (exact : Bool) : Type 0 where
  pub front : low ≡ front_of (pieces pattern)
  pub alone : exact ≡ is_open (after_front (pieces pattern))
  pub begins : IsFrontRange low end
  pub covers : (text : List ℕ) → like_test pattern text ≡ true → begins_with low text ≡ true
  pub only : exact ≡ true → (text : List ℕ) → begins_with low text ≡ true → like_test pattern text ≡ true
