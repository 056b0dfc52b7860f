use Rattle.std.proofs.Common.{[], ◌∷◌, ◌++◌, refl}
use Rattle.cad_network.specs.Deeds.{left}
use Rattle.cad_network.specs.lemmas.DeedLemmas.{Adds-trans}
use Rattle.cad_event_loop.proofs.peers.Peers.turn_away.Goals as goal

pub returns : goal.returns
returns g c =
    let t = c.tell_fault.ensures in
    (t.0 ++ left (g.N.Network.name c.args.socket) ∷ [], Adds-trans _ _ _ t.0 _ t.1 c.let_go.ensures, (t.0, t.2, refl))
