-- How numbers are spelled: `unsignedNumericLiteral` of CQL2's grammar (OGC 21-065r2, Annex B).
use Rattle.std.specs.Prelude.{◌≡◌, ℕ, Bool, true, ◌==◌, ◌||◌, List, [], ◌∷◌, ◌++◌}
use Rattle.std.specs.Char.{is_ascii_digit}
use Rattle.std.specs.Str.{byte}
use Rattle.cql_lexer.specs.Runs.{Run}

abbrev pub is_exponent_mark : ℕ → Bool
is_exponent_mark x = (x == byte "e") || (x == byte "E")

abbrev pub is_sign : ℕ → Bool
is_sign x = (x == byte "+") || (x == byte "-")

-- one digit or more
pub data IsDigits : List ℕ → List ℕ → List ℕ → Type 0 where
  digits : {x : ℕ} {xs run ys : List ℕ} → is_ascii_digit x ≡ true → Run is_ascii_digit xs run ys → IsDigits (x ∷ xs) (x ∷ run) ys

-- nothing, or a point and any number of digits
pub data IsFraction : List ℕ → List ℕ → List ℕ → Type 0 where
  no_fraction : {xs : List ℕ} → IsFraction xs [] xs
  fraction : {xs run ys : List ℕ} → Run is_ascii_digit xs run ys → IsFraction (byte "." ∷ xs) (byte "." ∷ run) ys

-- nothing, or `e`, an optional sign, and one digit or more
pub data IsExponent : List ℕ → List ℕ → List ℕ → Type 0 where
  no_exponent : {xs : List ℕ} → IsExponent xs [] xs
  exponent : {x : ℕ} {xs run ys : List ℕ} → is_exponent_mark x ≡ true → IsDigits xs run ys → IsExponent (x ∷ xs) (x ∷ run) ys
  signed_exponent : {x sign : ℕ} {xs run ys : List ℕ} → is_exponent_mark x ≡ true → is_sign sign ≡ true → IsDigits xs run ys → IsExponent (x ∷ sign ∷ xs) (x ∷ sign ∷ run) ys

-- digits with an optional fraction, or a point and digits; then an optional exponent
pub data IsNumber : List ℕ → List ℕ → List ℕ → Type 0 where
  digits_first : {xs whole ys part zs power us : List ℕ} → IsDigits xs whole ys → IsFraction ys part zs → IsExponent zs power us → IsNumber xs (whole ++ (part ++ power)) us
  point_first : {xs part ys power zs : List ℕ} → IsDigits xs part ys → IsExponent ys power zs → IsNumber (byte "." ∷ xs) (byte "." ∷ (part ++ power)) zs
