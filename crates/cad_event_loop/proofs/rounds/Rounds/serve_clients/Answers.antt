use Rattle.std.specs.declared.io.Error.{Error}
use Rattle.std.proofs.Common.{◌+◌, None, Some, Ok, Err, arith}
use Rattle.cad_event_loop.specs.inner.Rounds.{here, standing}
use Rattle.cad_event_loop.specs.inner.Standing.{GivesTurnsBelow, ServesAll, VisitsClient}
use Rattle.cad_event_loop.proofs.StandingLemmas.{below-nil, below-then, all_served, some_served, error_served, beyond}
use Rattle.cad_event_loop.proofs.GoesLemmas.{serves-nil, serves-so, serves-then}
use Rattle.std.proofs.lemmas.Result.{err_from_is_err_and}
use Rattle.cad_event_loop.proofs.rounds.Rounds.serve_clients.Goals as goal

pub loop-c-init : goal.loop-c-init
loop-c-init g c =
    let first = standing g.N.Network.name c.args.self.now in
    (c.requires, serves-nil g.R.Responder g.R.JournalResponder g.R.WorkingResponder.owes (GivesTurnsBelow 0 first first) (g.N.Network.history c.args.net.now) c.args.desk.now (here g.N.Network.name c.args.self.now) (below-nil first), omega arith)

pub serve_client-requires : goal.serve_client-requires
serve_client-requires g c = c.loop-c.invariant.0

pub returns-in_err-stopped-clause-hosts : goal.returns-in_err-stopped-clause-hosts
returns-in_err-stopped-clause-hosts g c =
    let p = err_from_is_err_and c.from_residual.result c.from_residual.ensures.1 in
    let test = c.loop-c-test.true in
    let first = standing g.N.Network.name c.args.self.now in
    let mid = standing g.N.Network.name c.loop-c.self in
    let last = standing g.N.Network.name c.serve_client.new.self in
    rw p.1 (serves-then g.R.Responder g.R.JournalResponder g.R.WorkingResponder.owes (GivesTurnsBelow c.loop-c.c first mid) (VisitsClient c.loop-c.c 37 (Err c.in_err-stopped.field-0.0) mid last) (ServesAll (Err p.0) first last) None _ _ _ c.args.desk.now c.loop-c.desk c.serve_client.new.desk _ _ _
    (λ xs ys below gives. error_served p.0 c.in_err-stopped.field-0.0 c.loop-c.c first mid last xs ys (omega (arith, test)) below gives) c.loop-c.invariant.1 c.in_err-stopped.ensures.hosts)

pub returns-in_err-stopped-clause-begun : goal.returns-in_err-stopped-clause-begun
returns-in_err-stopped-clause-begun g c =
    let p = err_from_is_err_and c.from_residual.result c.from_residual.ensures.1 in
    rw p.1 c.in_err-stopped.ensures.begun

pub returns-in-Some-clause-hosts : goal.returns-in-Some-clause-hosts
returns-in-Some-clause-hosts g c =
    let one = rw c.in-Some.is at c.in_ok-stopped.ensures.hosts in
    let test = c.loop-c-test.true in
    let first = standing g.N.Network.name c.args.self.now in
    let mid = standing g.N.Network.name c.loop-c.self in
    let last = standing g.N.Network.name c.serve_client.new.self in
    serves-then g.R.Responder g.R.JournalResponder g.R.WorkingResponder.owes (GivesTurnsBelow c.loop-c.c first mid) (VisitsClient {E = Error} c.loop-c.c 37 (Ok (Some c.in-Some.stopped)) mid last) (ServesAll {E = Error} (Ok (Some c.in-Some.stopped)) first last) (Some c.in-Some.stopped) _ _ _ c.args.desk.now c.loop-c.desk c.serve_client.new.desk _ _ _
    (λ xs ys. some_served {E = Error} (Ok (Some c.in-Some.stopped)) c.loop-c.c first mid last xs ys (omega (arith, test)) tt) c.loop-c.invariant.1 one

pub loop-c-preserved : goal.loop-c-preserved
loop-c-preserved g c =
    let begun = rw c.in_default.is at c.in_ok-stopped.ensures.begun in
    let one = rw c.in_default.is at c.in_ok-stopped.ensures.hosts in
    let first = standing g.N.Network.name c.args.self.now in
    let mid = standing g.N.Network.name c.loop-c.self in
    let last = standing g.N.Network.name c.serve_client.new.self in (
      begun,
      serves-then g.R.Responder g.R.JournalResponder g.R.WorkingResponder.owes (GivesTurnsBelow c.loop-c.c first mid) (VisitsClient {E = Error} c.loop-c.c 37 (Ok None) mid last) (GivesTurnsBelow (c.loop-c.c + 1) first last) None _ _ _ c.args.desk.now c.loop-c.desk c.serve_client.new.desk _ _ _
          (λ xs ys. below-then {E = Error} c.loop-c.c first mid last xs ys) c.loop-c.invariant.1 one,
      (let was = c.loop-c.invariant.2 in let more = c.in_ok-stopped.ensures.bounded in omega (arith, was, more)),
    )

pub returns-clause-hosts : goal.returns-clause-hosts
returns-clause-hosts g c =
    let test = c.loop-c-test.false in
    let end = c.loop-c.auto.c-end in
    let first = standing g.N.Network.name c.args.self.now in
    let last = standing g.N.Network.name c.loop-c.self in
    serves-so g.R.Responder g.R.JournalResponder g.R.WorkingResponder.owes (GivesTurnsBelow c.loop-c.c first last) (ServesAll {E = Error} (Ok None) first last) None _ _ c.args.desk.now c.loop-c.desk _ _
    (λ works. all_served {E = Error} c.loop-c.c first last works (beyond c.args.self.now.peers.clients) (omega (arith, test)) (omega (arith, end))) c.loop-c.invariant.1

pub returns-clause-begun : goal.returns-clause-begun
returns-clause-begun g c = c.loop-c.invariant.0
