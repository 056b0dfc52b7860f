use Rattle.std.proofs.Common.{None, refl, ◌∙◌, arith}
use Rattle.cad_event_loop.specs.Hosting.{IsClosing}
use Rattle.cad_event_loop.specs.inner.Rounds.{here}
use Rattle.cad_event_loop.proofs.GoesLemmas.{hosts-nil, hosts-then}
use Rattle.cad_event_loop.proofs.OfficeLemmas.{parted_more, all_parted}
use Rattle.cad_event_loop.proofs.rounds.Rounds.part_offices.Goals as goal

pub loop-k-init : goal.loop-k-init
loop-k-init g c = (refl, (λ j within. absurd (omega (arith, within))), hosts-nil g.R.Responder g.R.JournalResponder g.R.WorkingResponder.owes IsClosing (g.N.Network.history c.args.net.now) c.args.desk.now (here g.N.Network.name c.args.self.now))

pub loop-k-preserved : goal.loop-k-preserved
loop-k-preserved g c = (
  c.part_office.ensures.clients ∙ c.loop-k.invariant.0,
  parted_more c.loop-k.k c.loop-k.self.offices c.part_office.new.self.offices c.part_office.ensures.gone c.loop-k.invariant.1,
  hosts-then g.R.Responder g.R.JournalResponder g.R.WorkingResponder.owes IsClosing None _ _ _ c.args.desk.now c.loop-k.desk c.part_office.new.desk _ _ _ c.loop-k.invariant.2 c.part_office.ensures.hosts,
)

pub returns-clause-nobody : goal.returns-clause-nobody
returns-clause-nobody g c = let test = c.loop-k-test.false in all_parted c.loop-k.self.offices (λ j within. c.loop-k.invariant.1 j (omega (arith, test, within)))

pub returns-clause-hosts : goal.returns-clause-hosts
returns-clause-hosts g c = c.loop-k.invariant.2

pub returns-clause-clients : goal.returns-clause-clients
returns-clause-clients g c = c.loop-k.invariant.0
