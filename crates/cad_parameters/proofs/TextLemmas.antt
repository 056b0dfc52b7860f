-- Texts: their bytes, and what is read of bytes that are no text.
use Rattle.std.proofs.Common.{◌≡◌, ℕ, zero, suc, ◌+◌, ◌/◌, ◌<◌, ◌≤◌, ⊎_elim, Bool, true, false, cond, List, [], ◌∷◌, All, length, take, drop, Option, Some, None, refl, sym, subst, arith, take_all, nat_lt, IsUtf8}
use Rattle.std.specs.Prelude.{◌==◌, unwrap_or, slice_index}
use Rattle.std.specs.Int.{is_in_range}
use Rattle.std.proofs.lemmas.List.{length-drop}
use Rattle.std.specs.Str.{is_utf8}
use Rattle.std.specs.Str.Lossy.{utf8_lossy, utf8_valid_len, valid_len_up_to, utf8_error_len, utf8_invalid_len, error_len_of_some, error_len_after_one, error_len_after_two, second_byte_min, second_byte_max, replacement_bytes, after_first_chunk}
use Rattle.std.proofs.lemmas.Bool.Decides.{nat_tests}
use Rattle.std.proofs.lemmas.Bool.{and_parts, cases_lt}
use Rattle.std.proofs.lemmas.List.Elements.{All-nil, All-cons, All-append}
use Rattle.std.proofs.lemmas.Str.{IsUtf8-nil, IsUtf8-append, IsUtf8-from_is_utf8, utf8_lossy-IsUtf8, utf8_lossy_step, utf8_lossy_empty}
use lib.Utf8.{scalar, scalars, encode, encodes, next, scalar_cases}

abbrev IsByte : ℕ → Type 0
IsByte b = b < 256

next_byte : (bits : ℕ) → IsByte (next bits)
next_byte bits = omega arith

scalar_below : (c : ℕ) → scalar c ≡ true → c < 1114112
scalar_below c s = ⊎_elim (λ low. omega (arith, low)) (λ high. high.1) (scalar_cases c s)

-- the bytes of a character are bytes
char_bytes : (c : ℕ) → scalar c ≡ true → All IsByte (encode c)
unfolding encode
char_bytes c s = go (nat_lt c 128) refl (nat_lt c 2048) refl (nat_lt c 65536) refl (scalar_below c s)
  where
    go : (a : Bool) → nat_lt c 128 ≡ a → (b : Bool) → nat_lt c 2048 ≡ b → (d : Bool) → nat_lt c 65536 ≡ d → c < 1114112
        → All IsByte (cond a (c ∷ []) (cond b ((192 + c / 64) ∷ next c ∷ []) (cond d ((224 + c / 4096) ∷ next (c / 64) ∷ next c ∷ []) ((240 + c / 262144) ∷ next (c / 4096) ∷ next (c / 64) ∷ next c ∷ []))))
    go true e b f d g small = let first : IsByte c = grind (arith, nat_tests) in All-cons IsByte c [] first (All-nil IsByte)
    go false e true f d g small =
        let under : c < 2048 = grind (arith, nat_tests) in
        let first : IsByte (192 + c / 64) = omega arith in
        All-cons IsByte (192 + c / 64) (next c ∷ []) first (All-cons IsByte (next c) [] (next_byte c) (All-nil IsByte))
    go false e false f true g small =
        let under : c < 65536 = grind (arith, nat_tests) in
        let first : IsByte (224 + c / 4096) = omega arith in
        All-cons IsByte (224 + c / 4096) (next (c / 64) ∷ next c ∷ []) first
        (All-cons IsByte (next (c / 64)) (next c ∷ []) (next_byte (c / 64)) (All-cons IsByte (next c) [] (next_byte c) (All-nil IsByte)))
    go false e false f false g small =
        let first : IsByte (240 + c / 262144) = omega arith in
        All-cons IsByte (240 + c / 262144) (next (c / 4096) ∷ next (c / 64) ∷ next c ∷ []) first
        (All-cons IsByte (next (c / 4096)) (next (c / 64) ∷ next c ∷ []) (next_byte (c / 4096))
        (All-cons IsByte (next (c / 64)) (next c ∷ []) (next_byte (c / 64)) (All-cons IsByte (next c) [] (next_byte c) (All-nil IsByte))))

chars_bytes : (cs : List ℕ) → scalars cs ≡ true → All IsByte (encodes cs)
chars_bytes [] s = All-nil IsByte
chars_bytes (c ∷ cs) s =
    let both = and_parts (scalar c) (scalars cs) s in
    All-append IsByte (encode c) (encodes cs) (char_bytes c both.0) (chars_bytes cs both.1)

-- a text is bytes
pub text_bytes : (text : List ℕ) → IsUtf8 text → All (λ b. b < 256) text
text_bytes text u = subst (All IsByte) u.1.1 (chars_bytes u.0 u.1.0)

-- the longest front that is text is text
front_text : (bytes : List ℕ) (n : ℕ) → IsUtf8 (take (valid_len_up_to bytes n) bytes)
front_text bytes zero = IsUtf8-nil
front_text bytes (suc n) = go (is_utf8 (take (suc n) bytes)) refl (front_text bytes n)
  where
    go : (t : Bool) → is_utf8 (take (suc n) bytes) ≡ t → IsUtf8 (take (valid_len_up_to bytes n) bytes) → IsUtf8 (take (cond t (suc n) (valid_len_up_to bytes n)) bytes)
    go true e before = IsUtf8-from_is_utf8 _ e
    go false e before = before

valid_front : (bytes : List ℕ) → IsUtf8 (take (utf8_valid_len bytes) bytes)
unfolding utf8_valid_len
valid_front bytes = front_text bytes (length bytes)

replacement_text : IsUtf8 replacement_bytes
unfolding encode
replacement_text = (65533 ∷ [], (refl, refl))

either : (P : Option ℕ → Type 0) (t : Bool) (o p : Option ℕ) → P o → P p → P (cond t o p)
either P true o p h k = h
either P false o p h k = k

-- what one U+FFFD stands for has a byte, where there is one
invalid_some : (bytes : List ℕ) → 0 < length bytes → 0 < utf8_invalid_len bytes
unfolding utf8_error_len
invalid_some bytes some =
    let P : Option ℕ → Type 0 = λ o. 0 < unwrap_or o (length bytes) in
    let first = slice_index bytes 0 in
    let third = either P (is_in_range 0x80 0xBF (slice_index bytes 2)) (cond (nat_lt (length bytes) 4) None (Some 3)) (Some 2)
    (either P (nat_lt (length bytes) 4) None (Some 3) some (omega arith)) (omega arith) in
    let second = either P (is_in_range (second_byte_min first) (second_byte_max first) (slice_index bytes 1)) (error_len_after_two bytes) (Some 1)
    (either P (nat_lt (length bytes) 3) None _ some third) (omega arith) in
    either P (length bytes == 0) None (error_len_of_some bytes) some
    (either P (is_in_range 0xC2 0xF4 first) (error_len_after_one bytes) (Some 1) (either P (nat_lt (length bytes) 2) None _ some second) (omega arith))

chunk_shortens : (bytes : List ℕ) → utf8_valid_len bytes < length bytes → length (after_first_chunk bytes) < length bytes
chunk_shortens bytes part =
    let n = utf8_valid_len bytes in
    let invalid = invalid_some (drop n bytes) (omega (arith, length-drop n bytes)) in
    omega (arith, length-drop (n + utf8_invalid_len (drop n bytes)) bytes)

-- what is read of any bytes is text
lossy_text : (n : ℕ) (bytes : List ℕ) → length bytes ≤ n → IsUtf8 (utf8_lossy bytes)
lossy_text zero bytes few = subst IsUtf8 (sym (utf8_lossy_empty bytes (omega arith))) IsUtf8-nil
lossy_text (suc n) bytes few = ⊎_elim
    (λ part.
    let faulty : ¬ (utf8_valid_len bytes ≡ length bytes) = omega arith in
    let less = chunk_shortens bytes part in
    subst IsUtf8 (sym (utf8_lossy_step bytes faulty))
    (IsUtf8-append _ _ (valid_front bytes) (IsUtf8-append _ _ replacement_text (lossy_text n (after_first_chunk bytes) (omega arith)))))
    (λ whole.
    let text = subst IsUtf8 (take_all (utf8_valid_len bytes) bytes whole) (valid_front bytes) in
    subst IsUtf8 (sym (utf8_lossy-IsUtf8 bytes text)) text)
    (cases_lt (utf8_valid_len bytes) (length bytes))

pub IsUtf8-lossy : (bytes : List ℕ) → IsUtf8 (utf8_lossy bytes)
IsUtf8-lossy bytes = lossy_text (length bytes) bytes (omega arith)
