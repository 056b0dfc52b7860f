use Rattle.std.proofs.Common.{None}
use Rattle.cad_event_loop.specs.inner.Offices.{seat_at, offices_at}
use Rattle.cad_event_loop.specs.inner.Standing.{flag_at}
use Rattle.cad_event_loop.proofs.OfficeLemmas.{sent_hosts as office_sent, was_sending, none_sending, put_seat, seats_put, seat_here}
use Rattle.cad_event_loop.proofs.rounds.Rounds.send_office.Goals as goal

pub returns : goal.returns
returns g c =
    let name = g.N.Network.name in
    let seats = put_seat c.args.k None c.send-turned.result.1 c.args.self.now.offices c.take.new.self c.put.new.self c.take.ensures.rest c.put.ensures in
    office_sent g.R.Responder g.R.JournalResponder g.R.WorkingResponder.owes name c.args.k c.args.self.now.peers.clients (flag_at c.args.self.now.peers.ready) (flag_at c.args.self.now.peers.ready) (offices_at name c.args.self.now.offices) (offices_at name c.put.new.self) c.args.self.now.peers.line.numbers.items c.in-Some.office c.send-turned.result _ _ c.args.desk.now
    (seat_here name c.args.k c.in-Some.office c.args.self.now.offices c.in-Some.ensures.was) (seats_put name c.args.k c.send-turned.result.1 c.args.self.now.offices c.put.new.self seats) c.send-turned.ensures

pub returns-in_default : goal.returns-in_default
returns-in_default g c = absurd (none_sending (seat_at c.args.self.now.offices c.args.k) c.in_default.ensures.was (c.is_sending.ensures.0 c.if-not-is_sending.false))

pub send-turned-requires : goal.send-turned-requires
send-turned-requires g c = was_sending c.in-Some.office (seat_at c.args.self.now.offices c.args.k) c.in-Some.ensures.was (c.is_sending.ensures.0 c.if-not-is_sending.false)
