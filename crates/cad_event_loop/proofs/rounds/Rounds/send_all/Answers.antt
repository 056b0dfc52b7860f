use Rattle.std.proofs.Common.{None}
use Rattle.cad_event_loop.specs.Hosting.{IsClosing}
use Rattle.cad_event_loop.specs.inner.Offices.{offices_at}
use Rattle.cad_event_loop.proofs.GoesLemmas.{hosts-then}
use Rattle.cad_event_loop.proofs.rounds.Rounds.send_all.Goals as goal

pub returns : goal.returns
returns g c = hosts-then g.R.Responder g.R.JournalResponder g.R.WorkingResponder.owes IsClosing None _ _ _ c.args.desk.now c.send_ready.new.desk c.send_offices.new.desk _ _ _ (c.send_ready.ensures (offices_at g.N.Network.name c.args.self.now.offices)) c.send_offices.ensures
