use Rattle.cad_network.specs.Deeds.{AddsSome}
use Rattle.cad_event_loop.specs.inner.Standing.{AreAsMany, IsWoken}
use Rattle.cad_event_loop.specs.Works.{held_at, Same}
use Rattle.cad_event_loop.proofs.peers.Peers.note.Given as goal

abbrev pub invariant-loop : goal.invariant-loop
invariant-loop g l =
    AddsSome (g.N.Network.history l.fn.net) (g.N.Network.history l.net) (IsWoken l.fn.self l.self)
    × AddsSome (g.N.Network.history l.fn.net) (g.N.Network.history l.net) (AreAsMany l.counter)
    × Same (held_at g.N.Network.name l.fn.self.clients) (held_at g.N.Network.name l.self.clients)
