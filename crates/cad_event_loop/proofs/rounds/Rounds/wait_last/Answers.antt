use Rattle.std.proofs.Common.{refl}
use Rattle.cad_event_loop.specs.Works.{place_of}
use Rattle.cad_event_loop.specs.inner.Offices.{offices_at}
use Rattle.cad_event_loop.specs.inner.Rounds.{here}
use Rattle.cad_event_loop.proofs.GoesLemmas.{hosts_woken}
use Rattle.cad_event_loop.proofs.rounds.Rounds.wait_last.Goals as goal

pub returns : goal.returns
returns g c = hosts_woken g.R.Responder g.R.JournalResponder g.R.WorkingResponder.owes c.args.self.now.peers c.wait.new.self _ _ c.args.desk.now (here g.N.Network.name c.args.self.now) (place_of g.N.Network.name c.wait.new.self.clients (offices_at g.N.Network.name c.args.self.now.offices)) c.wait.ensures.told c.wait.ensures.held (λ k. refl)
