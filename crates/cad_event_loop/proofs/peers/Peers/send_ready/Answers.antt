use Rattle.std.proofs.Common.{None}
use Rattle.cad_event_loop.specs.Hosting.{IsClosing}
use Rattle.cad_event_loop.specs.Works.{place_of}
use Rattle.cad_event_loop.proofs.GoesLemmas.{hosts-nil, hosts-then}
use Rattle.cad_event_loop.proofs.peers.Peers.send_ready.Goals as goal

pub loop-c-init : goal.loop-c-init
loop-c-init g c = λ office. hosts-nil g.R.Responder g.R.JournalResponder g.R.WorkingResponder.owes IsClosing (g.N.Network.history c.args.net.now) c.args.desk.now (place_of g.N.Network.name c.args.self.now.clients office)

pub loop-c-preserved : goal.loop-c-preserved
loop-c-preserved g c = λ office. hosts-then g.R.Responder g.R.JournalResponder g.R.WorkingResponder.owes IsClosing None _ _ _ c.args.desk.now c.loop-c.desk c.send_one.new.desk _ _ _ (c.loop-c.invariant office) (c.send_one.ensures office)
