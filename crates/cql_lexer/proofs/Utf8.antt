-- Where UTF-8 may be cut.
use Rattle.std.proofs.Common.{◌≡◌, ℕ, ◌+◌, ◌<◌, Bool, true, List, [], ◌∷◌, ◌++◌, length, take, drop, get_or, refl, sym, subst, append_assoc, length-append, arith}
use Rattle.std.proofs.lemmas.Bool.Decides.{nat_tests}
use Rattle.std.proofs.lemmas.List.{take_at, drop_at, get_or_at}
use Rattle.std.proofs.lemmas.Str.{IsUtf8-take, IsUtf8-drop, IsUtf8-append, IsUtf8-from_ascii, IsCharBoundary-before_ascii, IsCharBoundary-after_ascii}
use Rattle.std.proofs.lemmas.Str.Ascii.{IsAscii-nil, IsAscii-cons}
use Rattle.std.specs.Char.{is_ascii_digit}
use Rattle.std.specs.Str.{IsAscii, IsUtf8}
use Rattle.cql_lexer.specs.Runs.{Run, stop, more}
use Rattle.cql_lexer.specs.Names.{is_name_part}

-- what stands before a byte of ASCII is UTF-8, and so is what stands behind it
pub cut : (before : List ℕ) (x : ℕ) (behind : List ℕ) → x < 128 → IsUtf8 (before ++ x ∷ behind) → IsUtf8 before × IsUtf8 behind
cut before x behind ascii utf8 =
    let bytes = before ++ x ∷ behind in
    let is : get_or bytes (length before) 0 ≡ x = get_or_at before x behind 0 (length before) refl in
    let low : get_or bytes (length before) 0 < 128 = rw is ascii in
    let within : length before < length bytes = omega (arith, length-append before (x ∷ behind)) in
    let front : take (length before) bytes ≡ before = take_at before (x ∷ behind) (length before) refl in
    let split : bytes ≡ (before ++ x ∷ []) ++ behind = sym (append_assoc before (x ∷ []) behind) in
    let back : drop (length before + 1) bytes ≡ behind = rw split (drop_at (before ++ x ∷ []) behind (length before + 1) (length-append before (x ∷ []))) in (
      subst IsUtf8 front (IsUtf8-take bytes (length before) utf8 (IsCharBoundary-before_ascii bytes (length before) within low)),
      subst IsUtf8 back (IsUtf8-drop bytes (length before + 1) utf8 (IsCharBoundary-after_ascii bytes (length before) utf8 within low)),
    )

-- such a byte may be left out
pub without : (before : List ℕ) (x : ℕ) (behind : List ℕ) → x < 128 → IsUtf8 (before ++ x ∷ behind) → IsUtf8 (before ++ behind)
without before x behind ascii utf8 = let parts = cut before x behind ascii utf8 in IsUtf8-append before behind parts.0 parts.1

-- what stands behind bytes of ASCII is UTF-8
pub data AllAscii : List ℕ → Type 0 where
  no_bytes : AllAscii []
  one_more : {x : ℕ} {xs : List ℕ} → x < 128 → AllAscii xs → AllAscii (x ∷ xs)

pub behind_ascii : {front : List ℕ} (behind : List ℕ) → AllAscii front → IsUtf8 (front ++ behind) → IsUtf8 behind
behind_ascii behind no_bytes utf8 = utf8
behind_ascii behind (one_more {x} {xs} ascii onward) utf8 = behind_ascii behind onward (cut [] x (xs ++ behind) ascii utf8).1

ascii_is : {xs : List ℕ} → AllAscii xs → IsAscii xs
ascii_is no_bytes = IsAscii-nil
ascii_is (one_more {x} {xs} ascii onward) = IsAscii-cons x xs ascii (ascii_is onward)

pub utf8_is : {xs : List ℕ} → AllAscii xs → IsUtf8 xs
utf8_is {xs} ascii = IsUtf8-from_ascii xs (ascii_is ascii)

pub ascii_append : {xs ys : List ℕ} → AllAscii xs → AllAscii ys → AllAscii (xs ++ ys)
ascii_append no_bytes more_bytes = more_bytes
ascii_append (one_more ascii onward) more_bytes = one_more ascii (ascii_append onward more_bytes)

-- ---- runs of ASCII

run_ascii : {p : ℕ → Bool} {xs run ys : List ℕ} → ((x : ℕ) → p x ≡ true → x < 128) → Run p xs run ys → AllAscii run
run_ascii ascii stop = no_bytes
run_ascii ascii (more {x} passes run) = one_more (ascii x passes) (run_ascii ascii run)

pub digit_ascii : (x : ℕ) → is_ascii_digit x ≡ true → x < 128
digit_ascii x digit = grind (arith, nat_tests)

pub part_ascii : (x : ℕ) → is_name_part x ≡ true → x < 128
part_ascii x part = grind (arith, nat_tests)

pub digits_ascii : {xs run ys : List ℕ} → Run is_ascii_digit xs run ys → AllAscii run
digits_ascii run = run_ascii digit_ascii run

pub name_ascii : {xs run ys : List ℕ} → Run is_name_part xs run ys → AllAscii run
name_ascii run = run_ascii part_ascii run

pub utf8_behind : (xs : List ℕ) (x : ℕ) (behind : List ℕ) → xs ≡ x ∷ behind → x < 128 → IsUtf8 xs → IsUtf8 behind
utf8_behind xs x behind all ascii utf8 = (cut [] x behind ascii (subst IsUtf8 all utf8)).1
