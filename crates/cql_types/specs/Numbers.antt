-- Numbers as they are written (OGC 21-065r2, requirements class Basic CQL2: numeric literals; whole numbers of 64 bits alone: own profile).
use Rattle.std.specs.Prelude.{ℕ, ℤ, pos, neg_ℤ, int_lt, not, ◌==◌, ◌&&◌, Bool, if◌then◌else◌, List, Result, Ok, Err}
use Rattle.std.specs.Char.{is_ascii_digit}
use Rattle.std.specs.List.{list_all, before_first, after_first}
use Rattle.std.specs.Str.Parse.{digits_value}
use Rattle.cql_types.specs.declared.fault.Misuse.{Misuse}
use Rattle.cql_types.specs.declared.fault.Misuse.TheVariants.{NotWhole, NumberTooLarge}

abbrev pub is_point : ℕ → Bool
is_point c = c == 46

abbrev pub is_zero : ℕ → Bool
is_zero c = c == 48

-- only digits, and behind a point only zeros
abbrev pub is_whole_spelling : List ℕ → Bool
is_whole_spelling spelling =
    list_all is_ascii_digit (before_first is_point spelling) && list_all is_zero (after_first is_point spelling)

abbrev pub signed : Bool → ℕ → ℤ
signed is_negative n = if is_negative then neg_ℤ (pos n) else pos n

-- within 64 bits
abbrev pub is_held : ℤ → Bool
is_held z = not (int_lt z (neg_ℤ (pos 9223372036854775808))) && not (int_lt (pos 9223372036854775807) z)

abbrev pub held : ℤ → Result ℤ Misuse
held z = if is_held z then Ok z else Err NumberTooLarge

-- the whole number that a sign and a spelling write
abbrev pub written : Bool → List ℕ → Result ℤ Misuse
written is_negative spelling =
    if is_whole_spelling spelling then held (signed is_negative (digits_value 10 (before_first is_point spelling))) else Err NotWhole
