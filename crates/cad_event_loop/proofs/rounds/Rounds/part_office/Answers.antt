use Rattle.std.proofs.Common.{None, refl}
use Rattle.cad_network.specs.lemmas.DeedLemmas.{Adds-nil}
use Rattle.cad_event_loop.specs.Hosting.{IsClosing}
use Rattle.cad_event_loop.specs.Works.{place_of}
use Rattle.cad_event_loop.specs.inner.Offices.{offices_at}
use Rattle.cad_event_loop.specs.inner.Standing.{flag_at}
use Rattle.cad_event_loop.proofs.OfficeLemmas.{left_hosts, seats_put, seat_here, seat_free}
use Rattle.cad_event_loop.proofs.GoesLemmas.{hosts-same}
use Rattle.cad_event_loop.proofs.rounds.Rounds.part_office.Goals as goal

pub returns-in-Some-clause-hosts : goal.returns-in-Some-clause-hosts
returns-in-Some-clause-hosts g c =
    let name = g.N.Network.name in
    let gone = rw c.into_socket.ensures at c.let_go.ensures in
    left_hosts g.R.Responder g.R.JournalResponder g.R.WorkingResponder.owes name c.args.k c.args.self.now.peers.clients (flag_at c.args.self.now.peers.ready) (flag_at c.args.self.now.peers.ready) (offices_at name c.args.self.now.offices) (offices_at name c.take.new.self) c.args.self.now.peers.line.numbers.items c.in-Some.office _ _ c.args.desk.now
    (seat_here name c.args.k c.in-Some.office c.args.self.now.offices c.in-Some.ensures.was) (seats_put name c.args.k None c.args.self.now.offices c.take.new.self c.take.ensures.rest) gone

pub returns-in_default-clause-hosts : goal.returns-in_default-clause-hosts
returns-in_default-clause-hosts g c =
    let name = g.N.Network.name in
    let clients = c.args.self.now.peers.clients in
    hosts-same g.R.Responder g.R.JournalResponder g.R.WorkingResponder.owes IsClosing _ _ c.args.desk.now (place_of name clients (offices_at name c.args.self.now.offices)) (place_of name clients (offices_at name c.take.new.self)) refl (Adds-nil (g.N.Network.history c.args.net.now)) (λ d. refl)
    (seat_free name c.args.k c.args.self.now.offices c.take.new.self c.in_default.ensures.was c.take.ensures.rest)
