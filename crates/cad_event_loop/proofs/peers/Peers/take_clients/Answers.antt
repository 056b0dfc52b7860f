use Rattle.std.proofs.Common.{◌+◌, None, arith}
use Rattle.cad_event_loop.specs.inner.Standing.{standings, IsAtDoors}
use Rattle.cad_event_loop.specs.Works.{place_of}
use Rattle.cad_event_loop.proofs.StandingLemmas.{doors-append, doors-nil, doors-more}
use Rattle.cad_event_loop.proofs.GoesLemmas.{serves-nil, serves-then, serves-so}
use Rattle.cad_event_loop.proofs.peers.Peers.take_clients.Goals as goal

pub loop-init : goal.loop-init
loop-init g c = λ office. serves-nil g.R.Responder g.R.JournalResponder g.R.WorkingResponder.owes (IsAtDoors 0 (standings c.args.self.now office) (standings c.args.self.now office)) (g.N.Network.history c.args.net.now) c.args.desk.now (place_of g.N.Network.name c.args.self.now.clients office) (doors-nil 0 (standings c.args.self.now office))

pub returns-then-not-take_client : goal.returns-then-not-take_client
returns-then-not-take_client g c = λ office.
    let test = c.loop-test.true in
    serves-then g.R.Responder g.R.JournalResponder g.R.WorkingResponder.owes (IsAtDoors c.loop.counter (standings c.args.self.now office) (standings c.loop.self office)) (IsAtDoors 1 (standings c.loop.self office) (standings c.take_client.new.self office)) (IsAtDoors 64 (standings c.args.self.now office) (standings c.take_client.new.self office))
    None _ _ _ c.args.desk.now c.loop.desk c.take_client.new.desk _ _ _
    (λ xs ys. doors-append c.loop.counter 1 64 (standings c.args.self.now office) (standings c.loop.self office) (standings c.take_client.new.self office) xs ys (omega (arith, test)))
    (c.loop.invariant office) (c.take_client.ensures.hosts office)

pub loop-preserved : goal.loop-preserved
loop-preserved g c = λ office.
    serves-then g.R.Responder g.R.JournalResponder g.R.WorkingResponder.owes (IsAtDoors c.loop.counter (standings c.args.self.now office) (standings c.loop.self office)) (IsAtDoors 1 (standings c.loop.self office) (standings c.take_client.new.self office)) (IsAtDoors (c.loop.counter + 1) (standings c.args.self.now office) (standings c.take_client.new.self office))
    None _ _ _ c.args.desk.now c.loop.desk c.take_client.new.desk _ _ _
    (λ xs ys. doors-append c.loop.counter 1 (c.loop.counter + 1) (standings c.args.self.now office) (standings c.loop.self office) (standings c.take_client.new.self office) xs ys (omega arith))
    (c.loop.invariant office) (c.take_client.ensures.hosts office)

pub returns-then-not-self : goal.returns-then-not-self
returns-then-not-self g c = λ office. serves-nil g.R.Responder g.R.JournalResponder g.R.WorkingResponder.owes (IsAtDoors 64 (standings c.args.self.now office) (standings c.args.self.now office)) (g.N.Network.history c.args.net.now) c.args.desk.now (place_of g.N.Network.name c.args.self.now.clients office) (doors-nil 64 (standings c.args.self.now office))

pub returns : goal.returns
returns g c = λ office.
    let end = c.loop.auto.counter-end in
    serves-so g.R.Responder g.R.JournalResponder g.R.WorkingResponder.owes (IsAtDoors c.loop.counter (standings c.args.self.now office) (standings c.loop.self office)) (IsAtDoors 64 (standings c.args.self.now office) (standings c.loop.self office)) None _ _ c.args.desk.now c.loop.desk _ _
    (λ works. doors-more c.loop.counter 64 (standings c.args.self.now office) (standings c.loop.self office) works (omega (arith, end))) (c.loop.invariant office)
