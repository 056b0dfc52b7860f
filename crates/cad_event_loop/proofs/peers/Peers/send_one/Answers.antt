use Rattle.cad_clients.specs.declared.budget.Budget.TheVariants.{First}
use Rattle.cad_clients.specs.Slots.{client_at}
use Rattle.cad_event_loop.proofs.GoesLemmas.{some_has, turn_others, worked_as, line_kept, line_room}
use Rattle.cad_event_loop.proofs.GoesLemmas.{sent_hosts as client_sent}
use Rattle.cad_event_loop.proofs.peers.Peers.send_one.Goals as goal

pub settle-requires : goal.settle-requires
settle-requires g c = λ works out. line_room c.args.c c.args.self.now.clients c.turn.new.self c.args.self.now.line.numbers.items c.args.self.now.in_line (c.is_working.ensures.0 works) out

pub returns-then-is_sending : goal.returns-then-is_sending
returns-then-is_sending g c = λ office.
    client_sent g.R.Responder g.R.JournalResponder g.R.WorkingResponder.owes g.N.Network.name c.args.c office c.args.self.now.now c.turn.result _ _ c.args.desk.now c.turn.new.desk c.args.self.now.clients c.turn.new.self
    (some_has (client_at c.args.self.now.clients c.args.c) (c.is_sending.ensures.0 c.if-is_sending.true)) c.turn.ensures.turn

pub invariant_of-self : goal.invariant_of-self
invariant_of-self g c =
    let next = c.turn.new.self in
    let others = turn_others g.R.Responder g.R.WorkingResponder.owes g.N.Network.name c.args.c c.args.self.now.now First c.turn.result c.args.desk.now c.turn.new.desk c.args.self.now.clients next c.turn.ensures.turn.0 c.turn.ensures.turn.2 in
    let own = worked_as (client_at next c.args.c) c.is_working.result c.is_working.ensures.0 c.is_working.ensures.1 in
    record { in_line = line_kept c.args.c c.is_working.result c.args.self.now.clients next c.args.self.now.line.numbers.items c.settle.new.self.numbers.items c.args.self.now.in_line others own c.settle.ensures }
