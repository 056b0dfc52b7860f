use Rattle.std.proofs.Common.{false, refl, sym, ap}
use Rattle.cad_event_loop.specs.Hosting.{IsClosing}
use Rattle.cad_event_loop.specs.inner.Line.{is_worked_on}
use Rattle.cad_event_loop.proofs.GoesLemmas.{closed_hosts, closed_gone, closed_others, line_kept}
use Rattle.cad_event_loop.proofs.peers.Peers.part_one.Goals as goal

pub returns-clause-hosts : goal.returns-clause-hosts
returns-clause-hosts g c = λ office. closed_hosts g.R.Responder g.R.JournalResponder g.R.WorkingResponder.owes g.N.Network.name c.args.c office IsClosing _ _ c.args.desk.now c.close.new.desk c.args.self.now.clients c.close.new.self refl (λ s deeds said. tt) c.close.ensures

pub returns-clause-gone : goal.returns-clause-gone
returns-clause-gone g c = closed_gone g.R.Responder g.N.Network.name c.args.c c.args.self.now.clients c.close.new.self c.args.desk.now c.close.new.desk c.close.ensures.0 c.close.ensures.2

pub invariant_of-self : goal.invariant_of-self
invariant_of-self g c =
    let others = closed_others g.R.Responder g.N.Network.name c.args.c c.args.self.now.clients c.close.new.self c.args.desk.now c.close.new.desk c.close.ensures.0 c.close.ensures.2 in
    record { in_line = line_kept c.args.c false c.args.self.now.clients c.close.new.self c.args.self.now.line.numbers.items c.settle.new.self.numbers.items c.args.self.now.in_line others.0 (sym (ap is_worked_on others.1)) c.settle.ensures }
