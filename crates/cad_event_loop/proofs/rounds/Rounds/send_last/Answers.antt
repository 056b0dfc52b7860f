use Rattle.std.proofs.Common.{None}
use Rattle.cad_event_loop.specs.Hosting.{IsClosing}
use Rattle.cad_event_loop.specs.inner.Rounds.{here}
use Rattle.cad_event_loop.proofs.GoesLemmas.{hosts-nil, hosts-then}
use Rattle.cad_event_loop.proofs.rounds.Rounds.send_last.Goals as goal

pub loop-init : goal.loop-init
loop-init g c = hosts-nil g.R.Responder g.R.JournalResponder g.R.WorkingResponder.owes IsClosing (g.N.Network.history c.args.net.now) c.args.desk.now (here g.N.Network.name c.args.self.now)

pub returns-then-is_sent-clause-hosts : goal.returns-then-is_sent-clause-hosts
returns-then-is_sent-clause-hosts g c = hosts-then g.R.Responder g.R.JournalResponder g.R.WorkingResponder.owes IsClosing None _ _ _ c.args.desk.now c.loop.desk c.send_all.new.desk _ _ _ c.loop.invariant c.send_all.ensures

pub returns-in_err-wait_last-clause-hosts : goal.returns-in_err-wait_last-clause-hosts
returns-in_err-wait_last-clause-hosts g c =
    let sent = hosts-then g.R.Responder g.R.JournalResponder g.R.WorkingResponder.owes IsClosing None _ _ _ c.args.desk.now c.loop.desk c.send_all.new.desk _ _ _ c.loop.invariant c.send_all.ensures in
    hosts-then g.R.Responder g.R.JournalResponder g.R.WorkingResponder.owes IsClosing None _ _ _ c.args.desk.now c.send_all.new.desk c.wait_last.new.desk _ _ _ sent c.in_err-wait_last.ensures

pub loop-preserved : goal.loop-preserved
loop-preserved g c =
    let sent = hosts-then g.R.Responder g.R.JournalResponder g.R.WorkingResponder.owes IsClosing None _ _ _ c.args.desk.now c.loop.desk c.send_all.new.desk _ _ _ c.loop.invariant c.send_all.ensures in
    hosts-then g.R.Responder g.R.JournalResponder g.R.WorkingResponder.owes IsClosing None _ _ _ c.args.desk.now c.send_all.new.desk c.wait_last.new.desk _ _ _ sent c.in_ok-wait_last.ensures
