use Rattle.std.proofs.Common.{◌≡◌, ℕ, ◌<◌, None}
use Rattle.cad_event_loop.specs.Hosting.{Hosts, IsClosing}
use Rattle.cad_event_loop.specs.Works.{held_at, place_of, AtOffices}
use Rattle.cad_event_loop.proofs.peers.Peers.part.Given as goal

abbrev pub invariant-loop-c : goal.invariant-loop-c
invariant-loop-c g l =
    ((office : AtOffices g.row.R-Reading.Denot) → Hosts g.R.Responder g.R.JournalResponder g.R.WorkingResponder.owes IsClosing None (g.N.Network.history l.fn.net) l.fn.desk (place_of g.N.Network.name l.fn.self.clients office) (g.N.Network.history l.net) l.desk (place_of g.N.Network.name l.self.clients office))
    × ((d : ℕ) → d < l.c → held_at g.N.Network.name l.self.clients d ≡ None)
