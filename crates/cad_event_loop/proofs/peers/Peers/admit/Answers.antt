use Rattle.std.proofs.Common.{ℕ, [], ◌∷◌, Option, sym, ap, subst, ◌∙◌}
use Rattle.cad_clients.specs.declared.client.Client.{Client}
use Rattle.cad_event_loop.specs.inner.Line.{standing_of, is_worked_on}
use Rattle.cad_network.specs.Deeds.{Adds, AddsSome, came}
use Rattle.cad_network.specs.lemmas.DeedLemmas.{Adds-trans}
use Rattle.cad_event_loop.specs.Hosting.{IsTurnedAway}
use Rattle.cad_event_loop.specs.inner.Standing.{flag_at, standings}
use Rattle.cad_event_loop.specs.Works.{place_of}
use Rattle.cad_event_loop.proofs.GoesLemmas.{opened_hosts, away_hosts}
use Rattle.cad_event_loop.proofs.peers.Peers.admit.Goals as goal

pub returns-in_default : goal.returns-in_default
returns-in_default g c = λ office before comes. away_hosts g.R.Responder g.R.JournalResponder g.R.WorkingResponder.owes (g.N.Network.name c.args.socket) before _ _ c.args.desk.now (place_of g.N.Network.name c.args.self.now.clients office) (standings c.args.self.now office) comes c.turn_away.ensures

pub returns-then-is_err : goal.returns-then-is_err
returns-then-is_err g c = λ office before comes.
    let watched = Adds-trans _ _ _ (came (g.N.Network.name c.args.socket) ∷ []) [] comes c.watch.ensures.done in
    away_hosts g.R.Responder g.R.JournalResponder g.R.WorkingResponder.owes (g.N.Network.name c.args.socket) before _ _ c.args.desk.now (place_of g.N.Network.name c.args.self.now.clients office) (standings c.args.self.now office) watched (subst (λ (n : ℕ). AddsSome (g.N.Network.history c.watch.new.self) (g.N.Network.history c.turn_away-then-is_err.new.net) (IsTurnedAway n)) c.watch.ensures.same c.turn_away-then-is_err.ensures)

pub returns : goal.returns
returns g c = λ office before comes.
    let watched = Adds-trans _ _ _ (came (g.N.Network.name c.args.socket) ∷ []) [] comes c.watch.ensures.done in
    let renamed = subst (λ (n : ℕ). Adds before (g.N.Network.history c.watch.new.self) (came n ∷ [])) (sym c.watch.ensures.same) watched in
    opened_hosts g.R.Responder g.R.JournalResponder g.R.WorkingResponder.owes g.N.Network.name c.in-Some.c office (flag_at c.args.self.now.ready) c.args.self.now.line.numbers.items c.args.self.now.now c.open-opened.result c.watch.new.socket before _ _ c.args.desk.now c.open-opened.new.desk c.args.self.now.clients c.open-opened.new.self c.in-Some.ensures.free.1 (c.args.self.now.in_line.each c.in-Some.c ∙ ap (λ (o : Option (Client _ _)). is_worked_on (standing_of o)) c.in-Some.ensures.free.1) renamed c.open-opened.ensures
