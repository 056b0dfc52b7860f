-- Numbers in requests (own profile).
use Rattle.std.specs.Prelude.{ℕ, ◌==◌, ◌&&◌, nat_le, min, List, length, slice_index, Option, Some, None, if◌then◌else◌}
use Rattle.std.specs.Option.{option_and_then}
use Rattle.cad_io.specs.Decimals.{number_in}
use Rattle.cad_versions.specs.Limits.{most_number}

-- a number from 1 to 2^31 - 1 whose first digit is not 0
abbrev pub counting_number : List ℕ → Option ℕ
counting_number digits =
    if slice_index digits 0 == 48 then None
    else option_and_then (λ n. if nat_le 1 n && nat_le n most_number then Some n else None) (number_in digits)

-- the most features of a page (OGC 17-069r4, 7.15.2: parameter limit): from 1; more than 1,000 means 1,000
abbrev pub limit_of : List ℕ → Option ℕ
limit_of text = option_and_then (λ n. if n == 0 then None else Some (min 1000 n)) (number_in text)

-- a revision: 1 to 18 digits
abbrev pub revision_of : List ℕ → Option ℕ
revision_of text = if nat_le (length text) 18 then number_in text else None
