use Rattle.std.proofs.Common.{None, ap}
use Rattle.cad_event_loop.specs.Hosting.{IsClosing}
use Rattle.cad_event_loop.specs.inner.Offices.{office_at, offices_at}
use Rattle.cad_event_loop.proofs.GoesLemmas.{hosts-then}
use Rattle.cad_event_loop.proofs.rounds.Rounds.part.Goals as goal

pub returns-clause-nobody : goal.returns-clause-nobody
returns-clause-nobody g c = ((λ d. rw c.part_offices.ensures.clients (c.part.ensures.nobody d)), λ k. ap (office_at g.N.Network.name) (c.part_offices.ensures.nobody k))

pub returns-clause-hosts : goal.returns-clause-hosts
returns-clause-hosts g c = hosts-then g.R.Responder g.R.JournalResponder g.R.WorkingResponder.owes IsClosing None _ _ _ c.args.desk.now c.part.new.desk c.part_offices.new.desk _ _ _ (c.part.ensures.hosts (offices_at g.N.Network.name c.args.self.now.offices)) c.part_offices.ensures.hosts
