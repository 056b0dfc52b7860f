-- What the steps of the scan find, for the contracts of private functions.
use Rattle.std.specs.Prelude.{◌≡◌, ℕ, Bool, false, ◌==◌, ◌&&◌, ◌||◌, Option, Some, None, List, [], ◌∷◌, if◌then◌else◌}
use Rattle.std.specs.Borrow.{Bor}
use Rattle.std.specs.Char.{is_ascii_digit}
use Rattle.std.specs.Str.{byte}
use Rattle.cql_lexer.specs.Mark.{Sort, sort_of}
use Rattle.cql_lexer.specs.Symbols.{symbol_of}
use Rattle.cql_lexer.specs.Names.{is_name_start, is_name_part, is_unquoted}
use Rattle.cql_lexer.specs.Numbers.{is_exponent_mark, is_sign}
use Rattle.cql_lexer.specs.Spelling.{is_blank, IsLongest, IsNoToken}
use Rattle.cql_lexer.specs.Lexed.{is_quote}
use Rattle.cql_lexer.specs.declared.class.ByteClass.{ByteClass}
use Rattle.cql_lexer.specs.declared.class.ByteClass.TheVariants.{Blank, NamePart, Digit, Unquoted}
use Rattle.cql_lexer.specs.declared.fault.SpellingFault.{SpellingFault}
use Rattle.cql_lexer.specs.declared.fault.SpellingFault.TheVariants.{Unterminated, StrangeCharacter}
use Rattle.cql_lexer.specs.declared.token.Kind.{Kind}

-- whether the class has the byte
abbrev pub is_in : ByteClass → ℕ → Bool
is_in Blank x = is_blank x
is_in NamePart x = is_name_part x
is_in Digit x = is_ascii_digit x
is_in Unquoted x = is_unquoted x

-- ---- runs

-- the bytes at the front that pass the test
abbrev pub run_of : (ℕ → Bool) → List ℕ → List ℕ
run_of passes [] = []
run_of passes (x ∷ xs) = if passes x then x ∷ run_of passes xs else []

-- and the bytes behind them
abbrev pub after_run : (ℕ → Bool) → List ℕ → List ℕ
after_run passes [] = []
after_run passes (x ∷ xs) = if passes x then after_run passes xs else x ∷ xs

-- ---- names

abbrev pub begins_name : List ℕ → Bool
begins_name [] = false
begins_name (x ∷ xs) = is_name_start x

-- ---- numbers

-- behind the digits at the front, or all of it if no digits come first
abbrev pub after_digits : List ℕ → List ℕ → List ℕ
after_digits all [] = all
after_digits all (x ∷ xs) = if is_ascii_digit x then after_run is_ascii_digit xs else all

abbrev pub after_signed : List ℕ → List ℕ → List ℕ
after_signed all [] = all
after_signed all (x ∷ xs) = if is_sign x then after_digits all xs else after_digits all (x ∷ xs)

abbrev pub after_exponent : List ℕ → List ℕ
after_exponent [] = []
after_exponent (x ∷ xs) = if is_exponent_mark x then after_signed (x ∷ xs) xs else x ∷ xs

abbrev pub after_fraction : List ℕ → List ℕ
after_fraction [] = []
after_fraction (x ∷ xs) = if x == byte "." then after_run is_ascii_digit xs else x ∷ xs

-- behind digits, a fraction and an exponent, if they follow
abbrev pub after_number : List ℕ → List ℕ
after_number xs = after_exponent (after_fraction (after_run is_ascii_digit xs))

abbrev pub begins_digit : List ℕ → Bool
begins_digit [] = false
begins_digit (x ∷ xs) = is_ascii_digit x

-- a digit comes first, or a point and a digit
abbrev pub begins_number : List ℕ → Bool
begins_number [] = false
begins_number (x ∷ xs) = is_ascii_digit x || ((x == byte ".") && begins_digit xs)

-- ---- symbols

abbrev pub with_rest : List ℕ → Option Sort → Option (Sort × List ℕ)
with_rest rest None = None
with_rest rest (Some s) = Some (s, rest)

abbrev pub or_else : Option (Sort × List ℕ) → Option (Sort × List ℕ) → Option (Sort × List ℕ)
or_else None other = other
or_else (Some found) other = Some found

-- the symbol at the front and the rest: of two bytes, or else of one
abbrev pub symbol_front : List ℕ → Option (Sort × List ℕ)
symbol_front [] = None
symbol_front (x ∷ []) = with_rest [] (symbol_of (x ∷ []))
symbol_front (x ∷ y ∷ xs) = or_else (with_rest xs (symbol_of (x ∷ y ∷ []))) (with_rest (y ∷ xs) (symbol_of (x ∷ [])))

-- ---- texts

-- what the first bytes of a content spell, and the rest; nothing at its closing quote or if no bytes are left
abbrev pub character_front : List ℕ → Option (ℕ × List ℕ)
character_front [] = None
character_front (x ∷ []) = if x == byte "'" then None else Some (x, [])
character_front (x ∷ y ∷ xs) =
    if ((x == byte "'") || (x == byte "\\")) && (y == byte "'") then Some (byte "'", xs) else (
    if x == byte "'" then None else Some (x, y ∷ xs))

-- ---- what was found

-- the longest token at the front and the rest, or no token begins there
abbrev pub Finds : List ℕ → Option (Kind × Bor (List ℕ)) → Type 0
Finds xs None = IsNoToken xs
Finds xs (Some t) = IsLongest xs (sort_of t.0) t.1.now

-- what was found, without its place in memory
abbrev pub seen : Option (Kind × Bor (List ℕ)) → Option (Sort × List ℕ)
seen None = None
seen (Some r) = Some (sort_of r.0, r.1.now)

abbrev pub seen_byte : Option (ℕ × Bor (List ℕ)) → Option (ℕ × List ℕ)
seen_byte None = None
seen_byte (Some r) = Some (r.0, r.1.now)

-- ---- between tokens

-- no byte that passes the test comes first
abbrev pub IsPast : (ℕ → Bool) → List ℕ → Type 0
IsPast passes [] = Unit {0}
IsPast passes (x ∷ xs) = passes x ≡ false

-- the fault of a place where no token begins
abbrev pub no_token_fault : ℕ → List ℕ → SpellingFault
no_token_fault place [] = StrangeCharacter place
no_token_fault place (x ∷ xs) = if is_quote x then Unterminated place else StrangeCharacter place
