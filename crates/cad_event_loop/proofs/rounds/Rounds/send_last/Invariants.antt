use Rattle.std.proofs.Common.{None}
use Rattle.cad_event_loop.specs.Hosting.{Hosts, IsClosing}
use Rattle.cad_event_loop.specs.inner.Rounds.{here}
use Rattle.cad_event_loop.proofs.rounds.Rounds.send_last.Given as goal

abbrev pub invariant-loop : goal.invariant-loop
invariant-loop g l = Hosts g.R.Responder g.R.JournalResponder g.R.WorkingResponder.owes IsClosing None (g.N.Network.history l.fn.net) l.fn.desk (here g.N.Network.name l.fn.self) (g.N.Network.history l.net) l.desk (here g.N.Network.name l.self)
