use Rattle.std.proofs.Common.{◌≡◌, ℕ, ◌<◌, None}
use Rattle.cad_event_loop.specs.Hosting.{Hosts, IsClosing}
use Rattle.cad_event_loop.specs.inner.Offices.{seat_at}
use Rattle.cad_event_loop.specs.inner.Rounds.{here}
use Rattle.cad_event_loop.proofs.rounds.Rounds.part_offices.Given as goal

abbrev pub invariant-loop-k : goal.invariant-loop-k
invariant-loop-k g l =
    (l.self.peers ≡ l.fn.self.peers) × ((j : ℕ) → j < l.k → seat_at l.self.offices j ≡ None)
    × Hosts g.R.Responder g.R.JournalResponder g.R.WorkingResponder.owes IsClosing None (g.N.Network.history l.fn.net) l.fn.desk (here g.N.Network.name l.fn.self) (g.N.Network.history l.net) l.desk (here g.N.Network.name l.self)
