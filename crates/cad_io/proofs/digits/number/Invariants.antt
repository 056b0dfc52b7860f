use Rattle.std.proofs.Common.{◌≡◌, min, true, take}
use Rattle.std.specs.List.{list_all}
use Rattle.std.specs.Char.{is_ascii_digit}
use Rattle.std.specs.Str.Parse.{digits_value}
use Rattle.cad_io.proofs.digits.number.Given as goal

-- the digits so far are digits, and the number is theirs
abbrev pub invariant-loop-digit : goal.invariant-loop-digit
invariant-loop-digit l =
    (list_all is_ascii_digit (take l.digit-index l.digits) ≡ true)
    × (l.number ≡ min 1000000000000000000 (digits_value 10 (take l.digit-index l.digits)))
