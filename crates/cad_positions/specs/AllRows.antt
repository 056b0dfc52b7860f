-- All positions, and those that pass a test.
use Rattle.std.specs.Prelude.{◌≡◌, ℕ, ◌^◌, ◌≤◌, Bool, List, filter, length, refl}
use Rattle.std.specs.List.{range_with_len}
use Rattle.std.specs.List.Sorted.{IsStrictlyIncreasing}
use Rattle.std.proofs.Common.{arith}
use Rattle.std.proofs.lemmas.List.FromFn.{length-range_with_len}
use Rattle.std.proofs.lemmas.List.Kept.{IsStrictlyIncreasing-filter}
use Rattle.std.proofs.lemmas.List.Sums.{count_by-le-length, length-filter}
use Rattle.cad_positions.specs.Between.{range_increases}

-- how many positions there are: the definition stays closed, so that nothing counts them out
pub most : ℕ
most = 2 ^ 32

pub most_is : most ≡ 2 ^ 32
unfolding most
most_is = refl

-- the positions that pass, in ascending order
abbrev pub rows_of : (ℕ → Bool) → List ℕ
rows_of test = filter test (range_with_len 0 most)

pub rows_increase : (test : ℕ → Bool) → IsStrictlyIncreasing (rows_of test)
rows_increase test = IsStrictlyIncreasing-filter test (range_with_len 0 most) (range_increases 0 most)

passing : (test : ℕ → Bool) (n : ℕ) → length (filter test (range_with_len 0 n)) ≤ n
passing test n = omega (arith, length-filter test (range_with_len 0 n), count_by-le-length test (range_with_len 0 n), length-range_with_len 0 n)

pub rows_bounded : (test : ℕ → Bool) → length (rows_of test) ≤ 2 ^ 32
rows_bounded test = rw (← most_is) (passing test most)
