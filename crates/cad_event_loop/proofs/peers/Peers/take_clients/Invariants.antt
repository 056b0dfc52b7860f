use Rattle.std.proofs.Common.{None}
use Rattle.cad_event_loop.specs.Hosting.{Serves}
use Rattle.cad_event_loop.specs.inner.Standing.{standings, IsAtDoors}
use Rattle.cad_event_loop.specs.Works.{place_of, AtOffices}
use Rattle.cad_event_loop.proofs.peers.Peers.take_clients.Given as goal

abbrev pub invariant-loop : goal.invariant-loop
invariant-loop g l =
    (office : AtOffices g.row.R-Reading.Denot) → Serves g.R.Responder g.R.JournalResponder g.R.WorkingResponder.owes (IsAtDoors l.counter (standings l.fn.self office) (standings l.self office)) None (g.N.Network.history l.fn.net) l.fn.desk (place_of g.N.Network.name l.fn.self.clients office) (g.N.Network.history l.net) l.desk (place_of g.N.Network.name l.self.clients office)
