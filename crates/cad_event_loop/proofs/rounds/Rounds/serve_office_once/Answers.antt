use Rattle.std.proofs.Common.{Bool, false, None, Some, subst, refl}
use Rattle.cad_network.specs.lemmas.DeedLemmas.{Adds-nil}
use Rattle.cad_event_loop.specs.Works.{Puts, place_of}
use Rattle.cad_event_loop.specs.inner.Offices.{offices_at}
use Rattle.cad_event_loop.specs.inner.Standing.{flag_at, standings_of, ServesOffice}
use Rattle.cad_event_loop.proofs.OfficeLemmas.{office_hosts, office_begun, was_begun, all_begun, put_seat, seats_put, seat_here, seat_free, same_none, none_served}
use Rattle.cad_event_loop.proofs.GoesLemmas.{serves-same}
use Rattle.cad_event_loop.proofs.rounds.Rounds.serve_office_once.Goals as goal

pub returns-clause-begun : goal.returns-clause-begun
returns-clause-begun g c =
    let begun = was_begun c.in-Some.office c.args.k c.args.self.now.offices c.in-Some.ensures.was c.requires.begun in
    let left = office_begun g.R.Responder g.R.JournalResponder g.R.WorkingResponder.owes g.N.Network.name _ _ c.in-Some.office c.serve-served.result c.args.desk.now c.serve-served.new.desk c.serve-served.ensures.0 begun c.serve-served.ensures.2 in
    let seats = put_seat c.args.k None c.serve-served.result.1 c.args.self.now.offices c.take.new.self c.put.new.self c.take.ensures.rest c.put.ensures in
    rw c.end_of.ensures (all_begun _ c.args.k c.serve-served.result.1 c.args.self.now.offices c.put.new.self c.requires.begun seats left)

pub returns-clause-hosts : goal.returns-clause-hosts
returns-clause-hosts g c =
    let name = g.N.Network.name in
    let begun = was_begun c.in-Some.office c.args.k c.args.self.now.offices c.in-Some.ensures.was c.requires.begun in
    let seats = put_seat c.args.k None c.serve-served.result.1 c.args.self.now.offices c.take.new.self c.put.new.self c.take.ensures.rest c.put.ensures in
    let flags = flag_at c.args.self.now.peers.ready in
    let set = flag_at c.set_office-2.new.self in
    let sets = subst (λ (is : Bool). Puts flags set c.args.k (Some is)) c.may_go_on.ensures c.set_office-2.ensures in
    rw c.end_of.ensures
    (office_hosts g.R.Responder g.R.JournalResponder g.R.WorkingResponder.owes name c.args.k c.args.self.now.peers.clients flags set (offices_at name c.args.self.now.offices) (offices_at name c.put.new.self) c.args.self.now.peers.line.numbers.items _ _ c.in-Some.office c.serve-served.result _ _ c.args.desk.now c.serve-served.new.desk
    (seat_here name c.args.k c.in-Some.office c.args.self.now.offices c.in-Some.ensures.was) (seats_put name c.args.k c.serve-served.result.1 c.args.self.now.offices c.put.new.self seats) sets begun c.serve-served.ensures)

pub returns-in_default-clause-hosts : goal.returns-in_default-clause-hosts
returns-in_default-clause-hosts g c =
    let name = g.N.Network.name in
    let clients = c.args.self.now.peers.clients in
    let flags = flag_at c.args.self.now.peers.ready in
    let set = flag_at c.set_office.new.self in
    let offices = offices_at name c.args.self.now.offices in
    let next = offices_at name c.take.new.self in
    let same = seat_free name c.args.k c.args.self.now.offices c.take.new.self c.in_default.ensures.was c.take.ensures.rest in
    serves-same g.R.Responder g.R.JournalResponder g.R.WorkingResponder.owes (ServesOffice c.args.k 8 (standings_of clients offices flags c.args.self.now.peers.line.numbers.items) (standings_of clients next set c.args.self.now.peers.line.numbers.items)) _ _ c.args.desk.now (place_of name clients offices) (place_of name clients next) (Adds-nil (g.N.Network.history c.args.net.now)) (λ d. refl) same
    (none_served c.args.k clients flags set offices next c.args.self.now.peers.line.numbers.items false (same_none name c.args.k c.args.self.now.offices c.in_default.ensures.was) same c.set_office.ensures)
