-- Days of one number are one day, since there is only one proof that the number is a day's.
use Rattle.std.proofs.Common.{◌≡◌, ℤ, ap, subst}
use lib.Dec.{T_prop}
use Rattle.cad_day.specs.declared.day.Day.{Day}
use Rattle.cad_day.specs.DayNumbers.{IsDayNumber}
use Rattle.cad_day.specs.Days.{number_of}

day_prop : (n : ℤ) → IsProp (IsDayNumber n)
day_prop n = hlevel T_prop

pub same_day : (a b : Day) → number_of a ≡ number_of b → a ≡ b
same_day a b e =
    subst (λ n. (p : IsDayNumber n) → a ≡ record { number = n; in_range = p }) e
    (λ p. ap (λ p. record { number = a.number; in_range = p }) (day_prop a.number a.in_range p)) b.in_range
