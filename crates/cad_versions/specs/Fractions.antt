-- Shares of a right (ISO 19152:2012, LA_RRR: the share is a Rational).
use Rattle.std.specs.Prelude.{ℕ, ◌≤◌}
use Rattle.cad_versions.specs.declared.share.Share.{Share}

-- above 0, at most 1, and with a denominator of at most 10^9
pub record IsShare (num den : ℕ) : Type 0 where
  pub some : 1 ≤ num
  pub within : num ≤ den
  pub small : den ≤ 1000000000

abbrev pub num_of : Share → ℕ
num_of share = share.num

abbrev pub den_of : Share → ℕ
den_of share = share.den
