use Rattle.std.proofs.Common.{ℕ, ◌<◌}
use Rattle.cad_event_loop.specs.inner.Offices.{seat_at, IsOfficeSending}
use Rattle.cad_event_loop.proofs.offices.Offices.any_sending.Given as goal

abbrev pub invariant-loop-k : goal.invariant-loop-k
invariant-loop-k g l = (j : ℕ) → j < l.k → IsOfficeSending (seat_at l.self j) → ⊥
