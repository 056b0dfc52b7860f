-- How large numbers are (own profile).
use Rattle.std.specs.Prelude.{ℕ}

-- the largest number of an object, and of a version of one: 2^31 - 1
abbrev pub most_number : ℕ
most_number = 2147483647
