use Rattle.std.proofs.Common.{◌≡◌, ℕ, ◌<◌, None}
use Rattle.cad_event_loop.specs.inner.Offices.{seat_at}
use Rattle.cad_event_loop.proofs.offices.Offices.is_empty.Given as goal

abbrev pub invariant-loop-k : goal.invariant-loop-k
invariant-loop-k g l = (j : ℕ) → j < l.k → seat_at l.self j ≡ None
