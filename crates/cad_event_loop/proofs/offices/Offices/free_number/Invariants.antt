use Rattle.std.proofs.Common.{ℕ, ◌<◌, IsSome}
use Rattle.cad_event_loop.specs.inner.Offices.{seat_at}
use Rattle.cad_event_loop.proofs.offices.Offices.free_number.Given as goal

abbrev pub invariant-loop-k : goal.invariant-loop-k
invariant-loop-k g l = (j : ℕ) → j < l.k → IsSome (seat_at l.self j)
