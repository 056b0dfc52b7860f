-- A text is read in one way.
use Rattle.std.proofs.Common.{◌≡◌, ℕ, ◌<◌, Bool, true, false, ◌==◌, ◌||◌, ◌&&◌, Option, Some, None, List, [], ◌∷◌, ◌++◌, length, if◌then◌else◌, refl, ap, sym, ◌∙◌, subst, append_assoc, append-nil, arith}
use Rattle.std.proofs.lemmas.Bool.Decides.{nat_tests}
use Rattle.std.specs.Str.{IsUtf8, byte}
use Rattle.cql_lexer.specs.Texts.{IsNoQuote, IsCharacter, doubled_quote, escaped_quote, backslash, itself, IsContent, closing_quote, character}
use Rattle.cql_lexer.specs.inner.Scan.{character_front}
use Rattle.cql_lexer.proofs.Utf8.{cut, without}

pub opposite : {b : Bool} → b ≡ true → b ≡ false → ⊥
opposite passes fails = cc

-- a character is read in one way
character_one : {x y : ℕ} {xs ys zs : List ℕ} → IsCharacter xs x ys → IsCharacter xs y zs → (x ≡ y) × (ys ≡ zs)
character_one doubled_quote doubled_quote = (refl, refl)
character_one doubled_quote (itself no_quote no_slash) = absurd (opposite refl no_quote)
character_one escaped_quote escaped_quote = (refl, refl)
character_one escaped_quote (backslash alone) = absurd (opposite refl alone)
character_one escaped_quote (itself no_quote no_slash) = absurd (opposite refl no_slash)
character_one (backslash alone) escaped_quote = absurd (opposite refl alone)
character_one (backslash alone) (backslash other) = (refl, refl)
character_one (backslash alone) (itself no_quote no_slash) = absurd (opposite refl no_slash)
character_one (itself no_quote no_slash) doubled_quote = absurd (opposite refl no_quote)
character_one (itself no_quote no_slash) escaped_quote = absurd (opposite refl no_slash)
character_one (itself no_quote no_slash) (backslash alone) = absurd (opposite refl no_slash)
character_one (itself no_quote no_slash) (itself _ _) = (refl, refl)

-- and none is read at the closing quote
closed_no_character : {x : ℕ} {xs ys : List ℕ} → IsNoQuote xs → IsCharacter (byte "'" ∷ xs) x ys → ⊥
closed_no_character closed doubled_quote = opposite refl closed
closed_no_character closed (itself no_quote no_slash) = opposite refl no_quote

moved : {xs ys content zs : List ℕ} → xs ≡ ys → IsContent xs content zs → IsContent ys content zs
moved {content} {zs} same content_there = subst (λ (u : List ℕ). IsContent u content zs) same content_there

pub content_one : {xs content ys other zs : List ℕ} → IsContent xs content ys → IsContent xs other zs → (content ≡ other) × (ys ≡ zs)
content_one (closing_quote closed) (closing_quote _) = (refl, refl)
content_one (closing_quote closed) (character one _) = absurd (closed_no_character closed one)
content_one (character one _) (closing_quote closed) = absurd (closed_no_character closed one)
content_one (character {content} one onward) (character {x} another behind) =
    let same = character_one one another in
    let rest = content_one onward (moved (sym same.1) behind) in
    (ap (λ c. c ∷ content) same.0 ∙ ap (λ w. x ∷ w) rest.0, rest.1)

-- ---- a text is the front of the bytes

character_splits : {x : ℕ} {xs ys : List ℕ} → IsCharacter xs x ys → (spelling : List ℕ) × (xs ≡ spelling ++ ys)
character_splits doubled_quote = (byte "'" ∷ byte "'" ∷ [], refl)
character_splits escaped_quote = (byte "\\" ∷ byte "'" ∷ [], refl)
character_splits (backslash alone) = (byte "\\" ∷ [], refl)
character_splits (itself {x} no_quote no_slash) = (x ∷ [], refl)

pub content_splits : {xs content ys : List ℕ} → IsContent xs content ys → (spelling : List ℕ) × (xs ≡ spelling ++ ys)
content_splits (closing_quote closed) = (byte "'" ∷ [], refl)
content_splits (character {zs} one onward) =
    let first = character_splits one in
    let rest = content_splits onward in
    (first.0 ++ rest.0, first.1 ∙ ap (λ w. first.0 ++ w) rest.1 ∙ sym (append_assoc first.0 rest.0 zs))

pub character_shorter : {x : ℕ} {xs ys : List ℕ} → IsCharacter xs x ys → length ys < length xs
character_shorter doubled_quote = omega arith
character_shorter escaped_quote = omega arith
character_shorter (backslash alone) = omega arith
character_shorter (itself no_quote no_slash) = omega arith

pub content_shorter : {xs content ys : List ℕ} → IsContent xs content ys → length ys < length xs
content_shorter (closing_quote closed) = omega arith
content_shorter (character one onward) = omega (arith, character_shorter one, content_shorter onward)

-- ---- and stays UTF-8

character_utf8 : (before : List ℕ) {x : ℕ} {xs ys : List ℕ} → IsCharacter xs x ys → IsUtf8 (before ++ xs) → IsUtf8 ((before ++ x ∷ []) ++ ys)
character_utf8 before (doubled_quote {xs}) utf8 = rw (append_assoc before (byte "'" ∷ []) xs) (without before (byte "'") (byte "'" ∷ xs) (omega arith) utf8)
character_utf8 before (escaped_quote {xs}) utf8 = rw (append_assoc before (byte "'" ∷ []) xs) (without before (byte "\\") (byte "'" ∷ xs) (omega arith) utf8)
character_utf8 before (backslash {xs} alone) utf8 = rw (append_assoc before (byte "\\" ∷ []) xs) utf8
character_utf8 before (itself {x} {xs} no_quote no_slash) utf8 = rw (append_assoc before (x ∷ []) xs) utf8

pub content_utf8 : (before : List ℕ) {xs content ys : List ℕ} → IsContent xs content ys → IsUtf8 (before ++ xs) → IsUtf8 (before ++ content) × IsUtf8 ys
content_utf8 before (closing_quote {xs} closed) utf8 = let parts = cut before (byte "'") xs (omega arith) utf8 in (rw append-nil parts.0, parts.1)
content_utf8 before (character {x} {content} one onward) utf8 =
    let rest = content_utf8 (before ++ x ∷ []) onward (character_utf8 before one utf8) in
    (subst IsUtf8 (append_assoc before (x ∷ []) content) rest.0, rest.1)

-- ---- the scan reads characters

-- nothing is left, or the closing quote comes first
pub data IsAtEnd : List ℕ → Type 0 where
  nothing_left : IsAtEnd []
  at_quote : {xs : List ℕ} → IsNoQuote xs → IsAtEnd (byte "'" ∷ xs)

abbrev pub ReadsCharacter : List ℕ → Option (ℕ × List ℕ) → Type 0
ReadsCharacter xs None = IsAtEnd xs
ReadsCharacter xs (Some r) = IsCharacter xs r.0 r.1

same_byte : (x y : ℕ) → (x == y) ≡ true → x ≡ y
same_byte x y same = grind (arith, nat_tests)

alone_is : (x : ℕ) (b : Bool) → (x == byte "'") ≡ b → ReadsCharacter (x ∷ []) (if b then None else Some (x, []))
alone_is x true quote = rw (same_byte x (byte "'") quote) (at_quote tt)
alone_is x false no_quote = slash (x == byte "\\") refl
  where
    slash : (b : Bool) → (x == byte "\\") ≡ b → IsCharacter (x ∷ []) x []
    slash true is = rw (same_byte x (byte "\\") is) (backslash tt)
    slash false is = itself no_quote is

-- a quote is behind, so that a quote or a backslash before it makes one quote
before_quote : (x : ℕ) (xs : List ℕ) (b c : Bool) → (x == byte "'") ≡ b → (x == byte "\\") ≡ c → ReadsCharacter (x ∷ byte "'" ∷ xs) (if (b || c) && true then Some (byte "'", xs) else (if b then None else Some (x, byte "'" ∷ xs)))
before_quote x xs true c quote slash = rw (same_byte x (byte "'") quote) doubled_quote
before_quote x xs false true quote slash = rw (same_byte x (byte "\\") slash) escaped_quote
before_quote x xs false false quote slash = itself quote slash

before_other : (x y : ℕ) (xs : List ℕ) → (y == byte "'") ≡ false → (b c : Bool) → (x == byte "'") ≡ b → (x == byte "\\") ≡ c → ReadsCharacter (x ∷ y ∷ xs) (if (b || c) && false then Some (byte "'", xs) else (if b then None else Some (x, y ∷ xs)))
before_other x y xs plain true true quote slash = rw (same_byte x (byte "'") quote) (at_quote plain)
before_other x y xs plain true false quote slash = rw (same_byte x (byte "'") quote) (at_quote plain)
before_other x y xs plain false true quote slash = rw (same_byte x (byte "\\") slash) (backslash plain)
before_other x y xs plain false false quote slash = itself quote slash

pub character_is : (xs : List ℕ) → ReadsCharacter xs (character_front xs)
character_is [] = nothing_left
character_is (x ∷ []) = alone_is x (x == byte "'") refl
character_is (x ∷ y ∷ xs) = at (y == byte "'") refl
  where
    at : (b : Bool) → (y == byte "'") ≡ b → ReadsCharacter (x ∷ y ∷ xs) (if ((x == byte "'") || (x == byte "\\")) && b then Some (byte "'", xs) else (if x == byte "'" then None else Some (x, y ∷ xs)))
    at true is = let same = same_byte y (byte "'") is in rw same (before_quote x xs (x == byte "'") (x == byte "\\") refl refl)
    at false is = before_other x y xs is (x == byte "'") (x == byte "\\") refl refl

-- what is read of a content behind its first character
pub behind_character : {x : ℕ} {xs ys content zs : List ℕ} → IsCharacter xs x ys → IsContent xs content zs → (rest : List ℕ) × (content ≡ x ∷ rest) × IsContent ys rest zs
behind_character one (closing_quote closed) = absurd (closed_no_character closed one)
behind_character one (character {content} another onward) =
    let same = character_one another one in
    (content, ap (λ c. c ∷ content) same.0, moved same.1 onward)

-- ---- reading a text from its front

-- the content of these bytes begins so and goes on in the rest
pub record IsReadTo (bytes front rest : List ℕ) : Type 0 where
  pub onward : (later ys : List ℕ) → IsContent rest later ys → IsContent bytes (front ++ later) ys
  pub back : (content ys : List ℕ) → IsContent bytes content ys → (later : List ℕ) × (content ≡ front ++ later) × IsContent rest later ys
  pub utf8 : IsUtf8 (front ++ rest)

pub read_none : (bytes : List ℕ) → IsUtf8 bytes → IsReadTo bytes [] bytes
read_none bytes utf8 = record {
  onward = λ later ys there. there;
  back = λ content ys there. (content, refl, there);
  utf8 = utf8;
}

pub read_more : {bytes front rest behind : List ℕ} {x : ℕ} → IsReadTo bytes front rest → Some (x, behind) ≡ character_front rest → IsReadTo bytes (front ++ x ∷ []) behind
read_more {bytes} {front} {rest} {behind} {x} read is =
    let one : IsCharacter rest x behind = rw (← is) at (character_is rest) in
    record {
      onward = λ later ys there. rw (append_assoc front (x ∷ []) later) (read.onward (x ∷ later) ys (character one there));
      back = λ content ys there.
          let before = read.back content ys there in
          let later = behind_character one before.2 in
          (later.0, before.1 ∙ ap (λ w. front ++ w) later.1 ∙ sym (append_assoc front (x ∷ []) later.0), later.2);
      utf8 = character_utf8 front one read.utf8;
    }

pub record IsClosed (bytes content behind : List ℕ) : Type 0 where
  pub there : IsContent bytes content behind
  pub utf8 : IsUtf8 content

closed_at : {bytes front rest : List ℕ} (y : ℕ) (behind : List ℕ) → IsReadTo bytes front rest → IsAtEnd rest → rest ≡ y ∷ behind → IsClosed bytes front behind
closed_at y behind read nothing_left all = absurd (cc)
closed_at {bytes} {front} y behind read (at_quote {xs} closed) all =
    let same : xs ≡ behind = cc in
    let there : IsContent bytes (front ++ []) xs = read.onward [] xs (closing_quote closed) in
    let closed_there : IsClosed bytes front xs = record { there = rw append-nil at there; utf8 = (cut front (byte "'") xs (omega arith) read.utf8).0 } in
    rw same at closed_there

pub read_closed : {bytes front rest : List ℕ} (y : ℕ) (behind : List ℕ) → IsReadTo bytes front rest → None ≡ character_front rest → rest ≡ y ∷ behind → IsClosed bytes front behind
read_closed {rest = rest} y behind read ends all = closed_at y behind read (rw (← ends) at (character_is rest)) all

pub read_unclosed : {bytes front rest : List ℕ} → IsReadTo bytes front rest → length rest ≡ 0 → (content ys : List ℕ) → IsContent bytes content ys → ⊥
read_unclosed read empty content ys there = let later = read.back content ys there in omega (arith, content_shorter later.2, empty)
