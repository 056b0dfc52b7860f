use Rattle.std.proofs.Common.{ℤ, ◌≤ℤ◌, ◌<ℤ◌, arith}
use Rattle.std.proofs.lemmas.Int.{ints}
use Rattle.cad_day.specs.Days.{number_of}
use Rattle.cad_register.proofs.stored_version.version_of.Goals as goal

turned : (m n : ℤ) → m ≤ℤ n → n <ℤ m → ⊥
turned m n h k = absurd (grind (arith, ints))

pub returns-then-is_before : goal.returns-then-is_before
returns-then-is_before c h = turned (number_of c.args.first) (number_of c.in-Some.last) (h.forward c.in-Some.last c.in-Some.is) (c.is_before.ensures.0 c.if-is_before.true)
