-- The days that the register knows, as numbers.
use Rattle.std.specs.Prelude.{ℤ, pos, neg_ℤ, ◌≤ℤ◌}

-- the days of the years 0000 to 9999 of ISO 8601: 0 is 1970-01-01, the first is 0000-01-01 and the last 9999-12-31
abbrev pub first_number : ℤ
first_number = neg_ℤ (pos 719528)

abbrev pub last_number : ℤ
last_number = pos 2932896

abbrev pub IsDayNumber : ℤ → Type 0
IsDayNumber n = (first_number ≤ℤ n) × (n ≤ℤ last_number)
