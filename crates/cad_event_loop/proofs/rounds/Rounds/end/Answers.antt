use Rattle.std.proofs.Common.{None, refl}
use Rattle.cad_event_loop.specs.Hosting.{IsClosing}
use Rattle.cad_event_loop.specs.inner.Rounds.{here}
use Rattle.cad_event_loop.proofs.GoesLemmas.{hosts-then, hosts-same}
use Rattle.cad_event_loop.proofs.rounds.Rounds.end.Goals as goal

pub returns-clause-hosts : goal.returns-clause-hosts
returns-clause-hosts g c =
    let parted = hosts-then g.R.Responder g.R.JournalResponder g.R.WorkingResponder.owes IsClosing None _ _ _ c.args.desk.now c.send_if-sent.new.desk c.part.new.desk _ _ _ c.send_if-sent.ensures.hosts c.part.ensures.hosts in
    let drained = hosts-same g.R.Responder g.R.JournalResponder g.R.WorkingResponder.owes IsClosing _ _ c.part.new.desk (here g.N.Network.name c.part.new.self) (here g.N.Network.name c.part.new.self) refl c.drain-drained.ensures.done (λ d. refl) (λ k. refl) in
    hosts-then g.R.Responder g.R.JournalResponder g.R.WorkingResponder.owes IsClosing None _ _ _ c.args.desk.now c.part.new.desk c.part.new.desk _ _ _ parted drained
