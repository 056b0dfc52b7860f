use Rattle.std.specs.declared.io.Error.{Error}
use Rattle.std.proofs.Common.{None, Some, Ok, Err}
use Rattle.std.proofs.lemmas.Result.{err_from_is_err_and}
use Rattle.cad_event_loop.specs.Hosting.{end_of_round}
use Rattle.cad_event_loop.specs.inner.Rounds.{standing}
use Rattle.cad_event_loop.specs.inner.Standing.{ServesAll, ServesPeers, WorksOnFirst}
use Rattle.cad_event_loop.proofs.StandingLemmas.{peers_cut, peers_then}
use Rattle.cad_event_loop.proofs.GoesLemmas.{serves-so, serves-then}
use Rattle.cad_event_loop.proofs.rounds.Rounds.serve_peers.Goals as goal

pub returns-in_err-stopped-clause-hosts : goal.returns-in_err-stopped-clause-hosts
returns-in_err-stopped-clause-hosts g c =
    let p = err_from_is_err_and c.from_residual.result c.from_residual.ensures.1 in
    let first = standing g.N.Network.name c.args.self.now in
    let last = standing g.N.Network.name c.serve_clients.new.self in
    rw p.1 (serves-so g.R.Responder g.R.JournalResponder g.R.WorkingResponder.owes (ServesAll (Err c.in_err-stopped.field-0.0) first last) (ServesPeers (Err p.0) first last) None _ _ c.args.desk.now c.serve_clients.new.desk _ _
    (λ works. peers_cut (Err p.0) (Err c.in_err-stopped.field-0.0) first last works tt) c.in_err-stopped.ensures.hosts)

pub returns-in_err-stopped-clause-begun : goal.returns-in_err-stopped-clause-begun
returns-in_err-stopped-clause-begun g c =
    let p = err_from_is_err_and c.from_residual.result c.from_residual.ensures.1 in
    rw p.1 c.in_err-stopped.ensures.begun

pub returns-in-Some-clause-hosts : goal.returns-in-Some-clause-hosts
returns-in-Some-clause-hosts g c =
    let one = rw c.in-Some.is at c.in_ok-stopped.ensures.hosts in
    let first = standing g.N.Network.name c.args.self.now in
    let last = standing g.N.Network.name c.serve_clients.new.self in
    serves-so g.R.Responder g.R.JournalResponder g.R.WorkingResponder.owes (ServesAll {E = Error} (Ok (Some c.in-Some.stopped)) first last) (ServesPeers {E = Error} (Ok (Some c.in-Some.stopped)) first last) (Some c.in-Some.stopped) _ _ c.args.desk.now c.serve_clients.new.desk _ _
    (λ works. peers_cut {E = Error} {F = Error} (Ok (Some c.in-Some.stopped)) (Ok (Some c.in-Some.stopped)) first last works tt) one

pub work_on_first-requires : goal.work_on_first-requires
work_on_first-requires g c = rw c.in_default.is at c.in_ok-stopped.ensures.begun

pub returns-clause-hosts : goal.returns-clause-hosts
returns-clause-hosts g c =
    let one = rw c.in_default.is at c.in_ok-stopped.ensures.hosts in
    let first = standing g.N.Network.name c.args.self.now in
    let mid = standing g.N.Network.name c.serve_clients.new.self in
    let last = standing g.N.Network.name c.work_on_first.new.self in
    serves-then g.R.Responder g.R.JournalResponder g.R.WorkingResponder.owes (ServesAll {E = Error} (Ok None) first mid) (WorksOnFirst c.work_on_first.result mid last) (ServesPeers c.work_on_first.result first last) (end_of_round c.work_on_first.result) _ _ _ c.args.desk.now c.serve_clients.new.desk c.work_on_first.new.desk _ _ _
    (λ xs ys. peers_then c.work_on_first.result first mid last xs ys) one c.work_on_first.ensures.hosts
