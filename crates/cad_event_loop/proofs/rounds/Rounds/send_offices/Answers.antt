use Rattle.std.proofs.Common.{None}
use Rattle.cad_event_loop.specs.Hosting.{IsClosing}
use Rattle.cad_event_loop.specs.inner.Rounds.{here}
use Rattle.cad_event_loop.proofs.GoesLemmas.{hosts-nil, hosts-then}
use Rattle.cad_event_loop.proofs.rounds.Rounds.send_offices.Goals as goal

pub loop-k-init : goal.loop-k-init
loop-k-init g c = hosts-nil g.R.Responder g.R.JournalResponder g.R.WorkingResponder.owes IsClosing (g.N.Network.history c.args.net.now) c.args.desk.now (here g.N.Network.name c.args.self.now)

pub loop-k-preserved : goal.loop-k-preserved
loop-k-preserved g c = hosts-then g.R.Responder g.R.JournalResponder g.R.WorkingResponder.owes IsClosing None _ _ _ c.args.desk.now c.loop-k.desk c.send_office.new.desk _ _ _ c.loop-k.invariant c.send_office.ensures
