use Rattle.std.proofs.Common.{ℕ, ◌<◌, IsSomeAnd}
use Rattle.cad_clients.specs.Notes.{MayGoOn}
use Rattle.cad_clients.specs.Slots.{client_at}
use Rattle.cad_event_loop.proofs.peers.any_ready.Given as goal

abbrev pub invariant-loop-c : goal.invariant-loop-c
invariant-loop-c g l = (d : ℕ) → d < l.c → IsSomeAnd (client_at l.clients d) MayGoOn → ⊥
