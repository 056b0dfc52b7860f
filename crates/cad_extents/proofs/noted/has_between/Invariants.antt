use Rattle.std.proofs.Common.{ℤ, pos, ◌+ℤ◌, ◌≤ℤ◌, ◌<ℤ◌}
use Rattle.cad_extents.specs.Places.{AreMarkedAt, places_of_whole}
use Rattle.cad_extents.proofs.noted.has_between.Given as goal

abbrev pub invariant-loop-offset : goal.invariant-loop-offset
invariant-loop-offset l = (n : ℤ) → l.low ≤ℤ n → n <ℤ (l.low +ℤ pos l.offset) → AreMarkedAt l.marks (places_of_whole n) → ⊥
