use Rattle.std.proofs.Common.{ℕ, None, Some, [], ◌∷◌, sym, ap, subst}
use Rattle.cad_network.specs.Deeds.{Adds, left, office_came}
use Rattle.cad_network.specs.lemmas.DeedLemmas.{Adds-trans}
use Rattle.cad_event_loop.specs.inner.Offices.{office_at, offices_at}
use Rattle.cad_event_loop.specs.inner.Rounds.{here, standing}
use Rattle.cad_event_loop.specs.inner.Standing.{flag_at}
use Rattle.cad_event_loop.proofs.OfficeLemmas.{came_hosts, unwatched_hosts, all_begun, seats_put}
use Rattle.cad_event_loop.proofs.rounds.Rounds.admit_office.Goals as goal

pub returns-then-is_err-clause-hosts : goal.returns-then-is_err-clause-hosts
returns-then-is_err-clause-hosts g c = λ before comes.
    let watched = Adds-trans _ _ _ (office_came (g.N.Network.name c.args.socket) ∷ []) [] comes c.watch.ensures.done in
    let gone = subst (λ (n : ℕ). Adds (g.N.Network.history c.watch.new.self) (g.N.Network.history c.let_go.new.self) (left n ∷ [])) c.watch.ensures.same c.let_go.ensures in
    unwatched_hosts g.R.Responder g.R.JournalResponder g.R.WorkingResponder.owes g.N.Network.name (g.N.Network.name c.args.socket) before _ _ c.args.desk.now (here g.N.Network.name c.args.self.now) (standing g.N.Network.name c.args.self.now) watched gone

pub returns-clause-hosts : goal.returns-clause-hosts
returns-clause-hosts g c = λ before comes.
    let watched = Adds-trans _ _ _ (office_came (g.N.Network.name c.args.socket) ∷ []) [] comes c.watch.ensures.done in
    let renamed = subst (λ (n : ℕ). Adds before (g.N.Network.history c.watch.new.self) (office_came n ∷ [])) (sym c.watch.ensures.same) watched in
    let name = g.N.Network.name in
    came_hosts g.R.Responder g.R.JournalResponder g.R.WorkingResponder.owes name c.args.k c.args.self.now.peers.clients (flag_at c.args.self.now.peers.ready) (flag_at c.set_office.new.self) (offices_at name c.args.self.now.offices) (offices_at name c.put.new.self) c.args.self.now.peers.line.numbers.items c.new-office.result c.watch.new.socket before _ c.args.desk.now
    c.requires.number (ap (office_at name) c.requires.free) c.new-office.ensures.socket c.new-office.ensures.new (seats_put name c.args.k (Some c.new-office.result) c.args.self.now.offices c.put.new.self c.put.ensures) c.set_office.ensures renamed

pub returns-clause-begun : goal.returns-clause-begun
returns-clause-begun g c = all_begun None c.args.k (Some c.new-office.result) c.args.self.now.offices c.put.new.self c.requires.begun c.put.ensures ([], c.new-office.ensures.new.none_begun)
