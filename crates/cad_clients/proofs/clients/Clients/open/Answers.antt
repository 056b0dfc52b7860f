use Rattle.std.proofs.Common.{refl, ◌∷◌, [], ◌++◌}
use Rattle.cad_network.specs.lemmas.DeedLemmas.{Adds-nil, Adds-trans}
use Rattle.cad_network.specs.Deeds.{left}
use Rattle.cad_clients.proofs.clients.Clients.open.Goals as goal

pub returns-in-Ok : goal.returns-in-Ok
returns-in-Ok g c = ([], Adds-nil _, (c.in-Ok.ensures, refl, (c.new.result, c.new.ensures.socket, c.new.ensures.new, c.new.ensures.goes_on, c.new.ensures.notes, c.put.ensures)))

pub returns-in-Err : goal.returns-in-Err
returns-in-Err g c =
    let t = c.tell_fault.ensures in
    (t.0 ++ left (g.N.Network.name c.args.socket) ∷ [], Adds-trans _ _ _ t.0 _ t.1 c.let_go.ensures, (c.in-Err.ensures, (λ d. refl), (t.0, t.2, refl)))
