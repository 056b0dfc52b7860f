-- The first bytes of a text as a number.
use Rattle.std.specs.Prelude.{ℕ, zero, suc, ◌+◌, ◌*◌, ◌^◌, ◌<◌, List, [], ◌∷◌, get_or}

-- the number whose digits to the base of 256 are the first n bytes; missing digits are zeros
abbrev pub front_of : ℕ → List ℕ → ℕ
front_of zero xs = 0
front_of (suc n) [] = 0
front_of (suc n) (x ∷ xs) = x * 256 ^ n + front_of n xs

abbrev pub AreBytes : List ℕ → Type 0
AreBytes xs = (i : ℕ) → get_or xs i 0 < 256
