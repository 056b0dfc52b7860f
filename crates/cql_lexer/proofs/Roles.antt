-- What the first byte of a token says of its kind.
use Rattle.std.proofs.Common.{◌≡◌, ℕ, Bool, true, false, ◌==◌, ◌||◌, if◌then◌else◌, refl, arith}
use Rattle.std.proofs.lemmas.Bool.Decides.{nat_tests}
use Rattle.std.specs.Char.{is_ascii_digit}
use Rattle.std.specs.Str.{byte}
use Rattle.cql_lexer.specs.Names.{is_name_start}
use Rattle.cql_lexer.specs.Spelling.{is_blank}

pub data Role : Type 0 where
  named : Role
  numbered : Role
  quoted : Role
  worded : Role
  spaced : Role
  other : Role

abbrev pub role : ℕ → Role
role x =
    if is_name_start x then named else (
    if is_ascii_digit x || (x == byte ".") then numbered else (
    if x == byte "\"" then quoted else (
    if x == byte "'" then worded else (
    if is_blank x then spaced else other))))

abbrev pub is_other : Role → Bool
is_other named = false
is_other numbered = false
is_other quoted = false
is_other worded = false
is_other spaced = false
is_other other = true

pub role_of_name : (x : ℕ) → is_name_start x ≡ true → role x ≡ named
role_of_name x name = rw name refl

digit_no_name : (x : ℕ) → is_ascii_digit x ≡ true → is_name_start x ≡ false
digit_no_name x digit = grind (arith, nat_tests)

pub role_of_digit : (x : ℕ) → is_ascii_digit x ≡ true → role x ≡ numbered
role_of_digit x digit = rw (digit_no_name x digit, digit) refl

blank_no_name : (x : ℕ) → is_blank x ≡ true → is_name_start x ≡ false
blank_no_name x blank = grind (arith, nat_tests)

blank_no_number : (x : ℕ) → is_blank x ≡ true → (is_ascii_digit x || (x == byte ".")) ≡ false
blank_no_number x blank = grind (arith, nat_tests)

blank_no_quote : (x : ℕ) → is_blank x ≡ true → (x == byte "\"") ≡ false
blank_no_quote x blank = grind (arith, nat_tests)

blank_no_word : (x : ℕ) → is_blank x ≡ true → (x == byte "'") ≡ false
blank_no_word x blank = grind (arith, nat_tests)

pub role_of_blank : (x : ℕ) → is_blank x ≡ true → role x ≡ spaced
role_of_blank x blank = rw (blank_no_name x blank, blank_no_number x blank, blank_no_quote x blank, blank_no_word x blank, blank) refl
