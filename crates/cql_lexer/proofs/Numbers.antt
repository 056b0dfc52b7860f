-- The scan finds the longest number.
use Rattle.std.proofs.Common.{◌≡◌, ℕ, ◌≤◌, ◌<◌, Bool, true, false, ◌==◌, ◌||◌, ◌&&◌, List, [], ◌∷◌, ◌++◌, length, if◌then◌else◌, refl, sym, ap, ◌∙◌, append_assoc, length-append, take, ◌-◌, arith}
use Rattle.std.proofs.lemmas.Bool.Decides.{nat_tests}
use Rattle.std.proofs.lemmas.List.{take_at}
use Rattle.std.specs.Char.{is_ascii_digit}
use Rattle.std.specs.Str.{byte}
use Rattle.cql_lexer.specs.Runs.{Run, stop, more}
use Rattle.cql_lexer.specs.Numbers.{is_exponent_mark, is_sign, IsDigits, digits, IsFraction, no_fraction, fraction, IsExponent, no_exponent, exponent, signed_exponent, IsNumber, digits_first, point_first}
use Rattle.cql_lexer.specs.inner.Scan.{run_of, after_run, after_digits, after_signed, after_exponent, after_fraction, after_number, begins_digit, begins_number}
use Rattle.cql_lexer.proofs.Runs.{run_is, after_shorter, run_longest, run_splits}
use Rattle.cql_lexer.proofs.Utf8.{AllAscii, no_bytes, one_more, ascii_append, digit_ascii, digits_ascii}

mark_no_digit : (x : ℕ) → is_exponent_mark x ≡ true → is_ascii_digit x ≡ false
mark_no_digit x mark = grind (arith, nat_tests)

mark_no_point : (x : ℕ) → is_exponent_mark x ≡ true → (x == byte ".") ≡ false
mark_no_point x mark = grind (arith, nat_tests)

mark_ascii : (x : ℕ) → is_exponent_mark x ≡ true → x < 128
mark_ascii x mark = grind (arith, nat_tests)

sign_ascii : (x : ℕ) → is_sign x ≡ true → x < 128
sign_ascii x sign = grind (arith, nat_tests)

digit_no_sign : (x : ℕ) → is_ascii_digit x ≡ true → is_sign x ≡ false
digit_no_sign x digit = grind (arith, nat_tests)

-- ---- each part ends within the bytes

fraction_shorter : (xs : List ℕ) → length (after_fraction xs) ≤ length xs
fraction_shorter [] = omega arith
fraction_shorter (x ∷ xs) = at (x == byte ".")
  where
    at : (b : Bool) → length (if b then after_run is_ascii_digit xs else x ∷ xs) ≤ length (x ∷ xs)
    at true = omega (arith, after_shorter is_ascii_digit xs)
    at false = omega arith

digits_shorter : (all xs : List ℕ) → length xs ≤ length all → length (after_digits all xs) ≤ length all
digits_shorter all [] within = omega arith
digits_shorter all (x ∷ xs) within = at (is_ascii_digit x)
  where
    at : (b : Bool) → length (if b then after_run is_ascii_digit xs else all) ≤ length all
    at true = omega (arith, after_shorter is_ascii_digit xs)
    at false = omega arith

signed_shorter : (all xs : List ℕ) → length xs ≤ length all → length (after_signed all xs) ≤ length all
signed_shorter all [] within = omega arith
signed_shorter all (x ∷ xs) within = at (is_sign x)
  where
    at : (b : Bool) → length (if b then after_digits all xs else after_digits all (x ∷ xs)) ≤ length all
    at true = digits_shorter all xs (omega arith)
    at false = digits_shorter all (x ∷ xs) within

exponent_shorter : (xs : List ℕ) → length (after_exponent xs) ≤ length xs
exponent_shorter [] = omega arith
exponent_shorter (x ∷ xs) = at (is_exponent_mark x)
  where
    at : (b : Bool) → length (if b then after_signed (x ∷ xs) xs else x ∷ xs) ≤ length (x ∷ xs)
    at true = signed_shorter (x ∷ xs) xs (omega arith)
    at false = omega arith

-- behind a number there is no more than before it
pub number_shorter : (xs : List ℕ) → length (after_number xs) ≤ length xs
number_shorter xs = omega (arith, exponent_shorter (after_fraction (after_run is_ascii_digit xs)), fraction_shorter (after_run is_ascii_digit xs), after_shorter is_ascii_digit xs)

-- ---- no number is longer

exponent_longest : {xs power ys : List ℕ} → IsExponent xs power ys → length (after_exponent xs) ≤ length ys
exponent_longest {xs} no_exponent = exponent_shorter xs
exponent_longest (exponent mark (digits {x = digit} is run)) = rw (mark, digit_no_sign digit is, is) (run_longest run)
exponent_longest (signed_exponent mark sign (digits is run)) = rw (mark, sign, is) (run_longest run)

-- an exponent begins with no digit and no point
exponent_behind_digits : {xs power ys : List ℕ} → IsExponent xs power ys → length (after_exponent (after_run is_ascii_digit xs)) ≤ length ys
exponent_behind_digits {xs} no_exponent = omega (arith, exponent_shorter (after_run is_ascii_digit xs), after_shorter is_ascii_digit xs)
exponent_behind_digits (exponent {x} {xs} mark some) = rw (mark_no_digit x mark) (exponent_longest (exponent {x = x} {xs = xs} mark some))
exponent_behind_digits (signed_exponent {x} {sign} {xs} mark is some) = rw (mark_no_digit x mark) (exponent_longest (signed_exponent {x = x} {sign = sign} {xs = xs} mark is some))

exponent_alone : {xs power ys : List ℕ} → IsExponent xs power ys → length (after_number xs) ≤ length ys
exponent_alone {xs} no_exponent = number_shorter xs
exponent_alone (exponent {x} {xs} mark some) = rw (mark_no_digit x mark, mark_no_point x mark) (exponent_longest (exponent {x = x} {xs = xs} mark some))
exponent_alone (signed_exponent {x} {sign} {xs} mark is some) = rw (mark_no_digit x mark, mark_no_point x mark) (exponent_longest (signed_exponent {x = x} {sign = sign} {xs = xs} mark is some))

digits_exponent : {xs run ys power zs : List ℕ} → Run is_ascii_digit xs run ys → IsExponent ys power zs → length (after_exponent (after_run is_ascii_digit xs)) ≤ length zs
digits_exponent stop power = exponent_behind_digits power
digits_exponent (more is run) power = rw is (digits_exponent run power)

fraction_exponent : {xs part ys power zs : List ℕ} → IsFraction xs part ys → IsExponent ys power zs → length (after_number xs) ≤ length zs
fraction_exponent no_fraction power = exponent_alone power
fraction_exponent (fraction run) power = digits_exponent run power

digits_fraction : {xs run ys part zs power us : List ℕ} → Run is_ascii_digit xs run ys → IsFraction ys part zs → IsExponent zs power us → length (after_number xs) ≤ length us
digits_fraction stop part power = fraction_exponent part power
digits_fraction (more is run) part power = rw is (digits_fraction run part power)

pub number_longest : {xs spelling ys : List ℕ} → IsNumber xs spelling ys → length (after_number xs) ≤ length ys
number_longest (digits_first (digits {x} {xs} is run) part power) = digits_fraction (more {x = x} {xs = xs} is run) part power
number_longest (point_first (digits {x} {xs} is run) power) = digits_exponent (more {x = x} {xs = xs} is run) power

-- ---- what the scan finds is a number

fraction_is : (xs : List ℕ) → (part : List ℕ) × IsFraction xs part (after_fraction xs)
fraction_is [] = ([], no_fraction)
fraction_is (x ∷ xs) = at (x == byte ".") refl
  where
    at : (b : Bool) → (x == byte ".") ≡ b → (part : List ℕ) × IsFraction (x ∷ xs) part (if b then after_run is_ascii_digit xs else x ∷ xs)
    at true point = let same : x ≡ byte "." = grind (arith, nat_tests) in rw same (byte "." ∷ run_of is_ascii_digit xs, fraction (run_is is_ascii_digit xs))
    at false point = ([], no_fraction)

unsigned_is : (x : ℕ) (xs : List ℕ) → is_exponent_mark x ≡ true → (power : List ℕ) × IsExponent (x ∷ xs) power (after_digits (x ∷ xs) xs)
unsigned_is x [] mark = ([], no_exponent)
unsigned_is x (y ∷ xs) mark = at (is_ascii_digit y) refl
  where
    at : (b : Bool) → is_ascii_digit y ≡ b → (power : List ℕ) × IsExponent (x ∷ y ∷ xs) power (if b then after_run is_ascii_digit xs else x ∷ y ∷ xs)
    at true digit = (x ∷ y ∷ run_of is_ascii_digit xs, exponent mark (digits digit (run_is is_ascii_digit xs)))
    at false digit = ([], no_exponent)

signed_is : (x sign : ℕ) (xs : List ℕ) → is_exponent_mark x ≡ true → is_sign sign ≡ true → (power : List ℕ) × IsExponent (x ∷ sign ∷ xs) power (after_digits (x ∷ sign ∷ xs) xs)
signed_is x sign [] mark signs = ([], no_exponent)
signed_is x sign (y ∷ xs) mark signs = at (is_ascii_digit y) refl
  where
    at : (b : Bool) → is_ascii_digit y ≡ b → (power : List ℕ) × IsExponent (x ∷ sign ∷ y ∷ xs) power (if b then after_run is_ascii_digit xs else x ∷ sign ∷ y ∷ xs)
    at true digit = (x ∷ sign ∷ y ∷ run_of is_ascii_digit xs, signed_exponent mark signs (digits digit (run_is is_ascii_digit xs)))
    at false digit = ([], no_exponent)

marked_is : (x : ℕ) (xs : List ℕ) → is_exponent_mark x ≡ true → (power : List ℕ) × IsExponent (x ∷ xs) power (after_signed (x ∷ xs) xs)
marked_is x [] mark = ([], no_exponent)
marked_is x (y ∷ xs) mark = at (is_sign y) refl
  where
    at : (b : Bool) → is_sign y ≡ b → (power : List ℕ) × IsExponent (x ∷ y ∷ xs) power (if b then after_digits (x ∷ y ∷ xs) xs else after_digits (x ∷ y ∷ xs) (y ∷ xs))
    at true sign = signed_is x y xs mark sign
    at false sign = unsigned_is x (y ∷ xs) mark

exponent_is : (xs : List ℕ) → (power : List ℕ) × IsExponent xs power (after_exponent xs)
exponent_is [] = ([], no_exponent)
exponent_is (x ∷ xs) = at (is_exponent_mark x) refl
  where
    at : (b : Bool) → is_exponent_mark x ≡ b → (power : List ℕ) × IsExponent (x ∷ xs) power (if b then after_signed (x ∷ xs) xs else x ∷ xs)
    at true mark = marked_is x xs mark
    at false mark = ([], no_exponent)

whole_is : (x : ℕ) (xs : List ℕ) → is_ascii_digit x ≡ true → (spelling : List ℕ) × IsNumber (x ∷ xs) spelling (after_number (x ∷ xs))
whole_is x xs digit =
    let part = fraction_is (after_run is_ascii_digit xs) in
    let power = exponent_is (after_fraction (after_run is_ascii_digit xs)) in
    rw digit (_, digits_first (digits digit (run_is is_ascii_digit xs)) part.1 power.1)

part_is : (xs : List ℕ) → begins_digit xs ≡ true → (spelling : List ℕ) × IsNumber (byte "." ∷ xs) spelling (after_number (byte "." ∷ xs))
part_is [] digit = absurd (cc)
part_is (x ∷ xs) digit =
    let power = exponent_is (after_run is_ascii_digit xs) in
    rw digit (_, point_first (digits digit (run_is is_ascii_digit xs)) power.1)

pub number_is : (xs : List ℕ) → begins_number xs ≡ true → (spelling : List ℕ) × IsNumber xs spelling (after_number xs)
number_is [] begins = absurd (cc)
number_is (x ∷ xs) begins = at (is_ascii_digit x) refl begins
  where
    at : (b : Bool) → is_ascii_digit x ≡ b → (b || ((x == byte ".") && begins_digit xs)) ≡ true → (spelling : List ℕ) × IsNumber (x ∷ xs) spelling (after_number (x ∷ xs))
    at true digit is = whole_is x xs digit
    at false digit is =
        let point : (x == byte ".") ≡ true = grind (arith, nat_tests) in
        let some : begins_digit xs ≡ true = grind (arith, nat_tests) in
        let same : x ≡ byte "." = grind (arith, nat_tests) in
        rw same (part_is xs some)

-- and a number begins as the scan asks
pub number_begins : {xs spelling ys : List ℕ} → IsNumber xs spelling ys → begins_number xs ≡ true
number_begins (digits_first (digits is run) part power) = rw is refl
number_begins (point_first (digits is run) power) = rw is refl

-- ---- a number is the front of the bytes

digits_splits : {xs run ys : List ℕ} → IsDigits xs run ys → xs ≡ run ++ ys
digits_splits (digits {x} is run) = ap (λ w. x ∷ w) (run_splits run)

fraction_splits : {xs part ys : List ℕ} → IsFraction xs part ys → xs ≡ part ++ ys
fraction_splits no_fraction = refl
fraction_splits (fraction run) = ap (λ w. byte "." ∷ w) (run_splits run)

exponent_splits : {xs power ys : List ℕ} → IsExponent xs power ys → xs ≡ power ++ ys
exponent_splits no_exponent = refl
exponent_splits (exponent {x} mark some) = ap (λ w. x ∷ w) (digits_splits some)
exponent_splits (signed_exponent {x} {sign} mark is some) = ap (λ w. x ∷ sign ∷ w) (digits_splits some)

pub number_splits : {xs spelling ys : List ℕ} → IsNumber xs spelling ys → xs ≡ spelling ++ ys
number_splits (digits_first {whole} {part} {power} {us} some part_there power_there) =
    digits_splits some ∙ ap (λ w. whole ++ w) (fraction_splits part_there ∙ ap (λ w. part ++ w) (exponent_splits power_there) ∙ sym (append_assoc part power us)) ∙ sym (append_assoc whole (part ++ power) us)
number_splits (point_first {part} {power} {zs} some power_there) =
    ap (λ w. byte "." ∷ w) (digits_splits some ∙ ap (λ w. part ++ w) (exponent_splits power_there) ∙ sym (append_assoc part power zs))

-- ---- which is ASCII

exponent_ascii : {xs power ys : List ℕ} → IsExponent xs power ys → AllAscii power
exponent_ascii no_exponent = no_bytes
exponent_ascii (exponent {x} mark (digits {x = y} is run)) = one_more (mark_ascii x mark) (one_more (digit_ascii y is) (digits_ascii run))
exponent_ascii (signed_exponent {x} {sign} mark signs (digits {x = y} is run)) = one_more (mark_ascii x mark) (one_more (sign_ascii sign signs) (one_more (digit_ascii y is) (digits_ascii run)))

fraction_ascii : {xs part ys : List ℕ} → IsFraction xs part ys → AllAscii part
fraction_ascii no_fraction = no_bytes
fraction_ascii (fraction run) = one_more (omega arith) (digits_ascii run)

pub number_ascii : {xs spelling ys : List ℕ} → IsNumber xs spelling ys → AllAscii spelling
number_ascii (digits_first (digits {x} is run) part power) = one_more (digit_ascii x is) (ascii_append (digits_ascii run) (ascii_append (fraction_ascii part) (exponent_ascii power)))
number_ascii (point_first (digits {x} is run) power) = one_more (omega arith) (one_more (digit_ascii x is) (ascii_append (digits_ascii run) (exponent_ascii power)))

-- and has a byte at least
pub number_filled : {xs spelling ys : List ℕ} → IsNumber xs spelling ys → 0 < length spelling
number_filled (digits_first (digits is run) part power) = omega arith
number_filled (point_first some power) = omega arith

-- so it is what stands before the bytes left
pub number_front : {xs spelling ys : List ℕ} → IsNumber xs spelling ys → take (length xs - length ys) xs ≡ spelling
number_front {xs} {spelling} {ys} is =
    let splits = number_splits is in
    rw splits (take_at spelling ys (length (spelling ++ ys) - length ys) (omega (arith, length-append spelling ys)))
