use Rattle.std.proofs.Common.{◌+◌, None, arith}
use Rattle.cad_event_loop.specs.inner.Standing.{standings, IsAtDoors}
use Rattle.cad_event_loop.specs.Works.{place_of}
use Rattle.cad_event_loop.proofs.StandingLemmas.{doors-append, doors-nil, doors-more}
use Rattle.cad_event_loop.proofs.GoesLemmas.{serves-nil, serves-then, serves-so}
use Rattle.cad_event_loop.proofs.peers.Peers.drop_overdue.Goals as goal

pub loop-c-init : goal.loop-c-init
loop-c-init g c = λ office. serves-nil g.R.Responder g.R.JournalResponder g.R.WorkingResponder.owes (IsAtDoors 0 (standings c.args.self.now office) (standings c.args.self.now office)) (g.N.Network.history c.args.net.now) c.args.desk.now (place_of g.N.Network.name c.args.self.now.clients office) (doors-nil 0 (standings c.args.self.now office))

pub loop-c-preserved : goal.loop-c-preserved
loop-c-preserved g c = λ office.
    serves-then g.R.Responder g.R.JournalResponder g.R.WorkingResponder.owes (IsAtDoors c.loop-c.c (standings c.args.self.now office) (standings c.loop-c.self office)) (IsAtDoors 1 (standings c.loop-c.self office) (standings c.drop_one.new.self office)) (IsAtDoors (c.loop-c.c + 1) (standings c.args.self.now office) (standings c.drop_one.new.self office))
    None _ _ _ c.args.desk.now c.loop-c.desk c.drop_one.new.desk _ _ _
    (λ xs ys. doors-append c.loop-c.c 1 (c.loop-c.c + 1) (standings c.args.self.now office) (standings c.loop-c.self office) (standings c.drop_one.new.self office) xs ys (omega arith))
    (c.loop-c.invariant office) (c.drop_one.ensures.hosts office)

pub returns : goal.returns
returns g c = λ office.
    let end = c.loop-c.auto.c-end in
    serves-so g.R.Responder g.R.JournalResponder g.R.WorkingResponder.owes (IsAtDoors c.loop-c.c (standings c.args.self.now office) (standings c.loop-c.self office)) (IsAtDoors 64 (standings c.args.self.now office) (standings c.loop-c.self office)) None _ _ c.args.desk.now c.loop-c.desk _ _
    (λ works. doors-more c.loop-c.c 64 (standings c.args.self.now office) (standings c.loop-c.self office) works (omega (arith, end))) (c.loop-c.invariant office)
