use Rattle.std.proofs.Common.{None}
use Rattle.cad_event_loop.specs.inner.Offices.{seat_at, offices_at}
use Rattle.cad_event_loop.specs.inner.Rounds.{here, standing}
use Rattle.cad_event_loop.specs.inner.Standing.{flag_at, IsAtDoors}
use Rattle.cad_event_loop.proofs.StandingLemmas.{doors-nil}
use Rattle.cad_event_loop.proofs.GoesLemmas.{serves-nil}
use Rattle.cad_event_loop.proofs.OfficeLemmas.{dropped_office, was_sending, none_sending, all_begun, seats_put, seat_here}
use Rattle.cad_event_loop.proofs.rounds.Rounds.drop_office.Goals as goal

pub returns-in-Some-clause-hosts : goal.returns-in-Some-clause-hosts
returns-in-Some-clause-hosts g c =
    let name = g.N.Network.name in
    let gone = rw c.into_socket.ensures at c.let_go.ensures in
    let sending = was_sending c.in-Some.office (seat_at c.args.self.now.offices c.args.k) c.in-Some.ensures.was (c.is_overdue.ensures c.if-not-is_overdue.false) in
    let flags = flag_at c.args.self.now.peers.ready in
    dropped_office g.R.Responder g.R.JournalResponder g.R.WorkingResponder.owes name c.args.k c.args.self.now.peers.clients flags flags (offices_at name c.args.self.now.offices) (offices_at name c.take.new.self) c.args.self.now.peers.line.numbers.items c.in-Some.office _ _ c.args.desk.now
    (seat_here name c.args.k c.in-Some.office c.args.self.now.offices c.in-Some.ensures.was) (seats_put name c.args.k None c.args.self.now.offices c.take.new.self c.take.ensures.rest) sending gone

pub returns-in-Some-clause-begun : goal.returns-in-Some-clause-begun
returns-in-Some-clause-begun g c = all_begun None c.args.k None c.args.self.now.offices c.take.new.self c.requires.begun c.take.ensures.rest tt

pub returns-in_default-clause-hosts : goal.returns-in_default-clause-hosts
returns-in_default-clause-hosts g c = absurd (none_sending (seat_at c.args.self.now.offices c.args.k) c.in_default.ensures.was (c.is_overdue.ensures c.if-not-is_overdue.false))

pub returns-in_default-clause-begun : goal.returns-in_default-clause-begun
returns-in_default-clause-begun g c = all_begun None c.args.k None c.args.self.now.offices c.take.new.self c.requires.begun c.take.ensures.rest tt

pub returns-then-not-is_overdue-clause-hosts : goal.returns-then-not-is_overdue-clause-hosts
returns-then-not-is_overdue-clause-hosts g c =
    let first = standing g.N.Network.name c.args.self.now in
    serves-nil g.R.Responder g.R.JournalResponder g.R.WorkingResponder.owes (IsAtDoors 1 first first) (g.N.Network.history c.args.net.now) c.args.desk.now (here g.N.Network.name c.args.self.now) (doors-nil 1 first)
