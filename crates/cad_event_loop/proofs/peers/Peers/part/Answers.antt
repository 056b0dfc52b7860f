use Rattle.std.proofs.Common.{None, arith}
use Rattle.cad_event_loop.specs.Hosting.{IsClosing}
use Rattle.cad_event_loop.specs.Works.{held_at, place_of}
use Rattle.cad_event_loop.proofs.GoesLemmas.{all_none, gone_more, hosts-nil, hosts-then}
use Rattle.cad_event_loop.proofs.peers.Peers.part.Goals as goal

pub loop-c-init : goal.loop-c-init
loop-c-init g c = ((λ office. hosts-nil g.R.Responder g.R.JournalResponder g.R.WorkingResponder.owes IsClosing (g.N.Network.history c.args.net.now) c.args.desk.now (place_of g.N.Network.name c.args.self.now.clients office)), λ d within. absurd (omega (arith, within)))

pub loop-c-preserved : goal.loop-c-preserved
loop-c-preserved g c = (
  (λ office. hosts-then g.R.Responder g.R.JournalResponder g.R.WorkingResponder.owes IsClosing None _ _ _ c.args.desk.now c.loop-c.desk c.part_one.new.desk _ _ _ (c.loop-c.invariant.0 office) (c.part_one.ensures.hosts office)),
  gone_more c.loop-c.c (held_at g.N.Network.name c.loop-c.self.clients) (held_at g.N.Network.name c.part_one.new.self.clients) c.part_one.ensures.gone c.loop-c.invariant.1,
)

pub returns-clause-hosts : goal.returns-clause-hosts
returns-clause-hosts g c = c.loop-c.invariant.0

pub returns-clause-nobody : goal.returns-clause-nobody
returns-clause-nobody g c =
    let test = c.loop-c-test.false in
    all_none g.N.Network.name c.loop-c.self.clients (λ d within. c.loop-c.invariant.1 d (omega (arith, test, within)))
