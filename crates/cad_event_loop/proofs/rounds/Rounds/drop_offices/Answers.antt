use Rattle.std.proofs.Common.{◌+◌, None, arith}
use Rattle.cad_event_loop.specs.inner.Rounds.{here, standing}
use Rattle.cad_event_loop.specs.inner.Standing.{IsAtDoors}
use Rattle.cad_event_loop.proofs.StandingLemmas.{doors-append, doors-nil, doors-more}
use Rattle.cad_event_loop.proofs.GoesLemmas.{serves-nil, serves-then, serves-so}
use Rattle.cad_event_loop.proofs.rounds.Rounds.drop_offices.Goals as goal

pub loop-k-init : goal.loop-k-init
loop-k-init g c =
    let first = standing g.N.Network.name c.args.self.now in
    (c.requires, serves-nil g.R.Responder g.R.JournalResponder g.R.WorkingResponder.owes (IsAtDoors 0 first first) (g.N.Network.history c.args.net.now) c.args.desk.now (here g.N.Network.name c.args.self.now) (doors-nil 0 first))

pub drop_office-requires-clause-begun : goal.drop_office-requires-clause-begun
drop_office-requires-clause-begun g c = c.loop-k.invariant.0

pub loop-k-preserved : goal.loop-k-preserved
loop-k-preserved g c =
    let first = standing g.N.Network.name c.args.self.now in
    let mid = standing g.N.Network.name c.loop-k.self in
    let last = standing g.N.Network.name c.drop_office.new.self in (
      c.drop_office.ensures.begun,
      serves-then g.R.Responder g.R.JournalResponder g.R.WorkingResponder.owes (IsAtDoors c.loop-k.k first mid) (IsAtDoors 1 mid last) (IsAtDoors (c.loop-k.k + 1) first last) None _ _ _ c.args.desk.now c.loop-k.desk c.drop_office.new.desk _ _ _
          (λ xs ys. doors-append c.loop-k.k 1 (c.loop-k.k + 1) first mid last xs ys (omega arith)) c.loop-k.invariant.1 c.drop_office.ensures.hosts,
    )

pub returns-clause-hosts : goal.returns-clause-hosts
returns-clause-hosts g c =
    let end = c.loop-k.auto.k-end in
    let first = standing g.N.Network.name c.args.self.now in
    let last = standing g.N.Network.name c.loop-k.self in
    serves-so g.R.Responder g.R.JournalResponder g.R.WorkingResponder.owes (IsAtDoors c.loop-k.k first last) (IsAtDoors 4 first last) None _ _ c.args.desk.now c.loop-k.desk _ _
    (λ works. doors-more c.loop-k.k 4 first last works (omega (arith, end))) c.loop-k.invariant.1

pub returns-clause-begun : goal.returns-clause-begun
returns-clause-begun g c = c.loop-k.invariant.0
