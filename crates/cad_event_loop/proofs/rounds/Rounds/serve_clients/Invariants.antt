use Rattle.std.proofs.Common.{◌+◌, ◌*◌, ◌≤◌, None}
use Rattle.cad_event_loop.specs.Hosting.{Serves}
use Rattle.cad_event_loop.specs.inner.Offices.{HaveBegun}
use Rattle.cad_event_loop.specs.inner.Rounds.{here, standing}
use Rattle.cad_event_loop.specs.inner.Standing.{GivesTurnsBelow}
use Rattle.cad_event_loop.proofs.rounds.Rounds.serve_clients.Given as goal

abbrev pub invariant-loop-c : goal.invariant-loop-c
invariant-loop-c g l =
    HaveBegun l.self.offices
    × Serves g.R.Responder g.R.JournalResponder g.R.WorkingResponder.owes (GivesTurnsBelow l.c (standing g.N.Network.name l.fn.self) (standing g.N.Network.name l.self)) None (g.N.Network.history l.fn.net) l.fn.desk (here g.N.Network.name l.fn.self) (g.N.Network.history l.net) l.desk (here g.N.Network.name l.self)
    × (g.R.WorkingResponder.spent l.meter ≤ g.R.WorkingResponder.spent l.fn.meter + 819 * l.c)
