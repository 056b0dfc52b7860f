use Rattle.std.specs.declared.io.Error.{Error}
use Rattle.std.proofs.Common.{None, Some, Ok, Err, arith}
use Rattle.cad_event_loop.specs.inner.Rounds.{standing}
use Rattle.cad_event_loop.specs.inner.Standing.{IsAsked, ServesPeers, ServesEach, ServesOffices, MakesRound}
use Rattle.cad_event_loop.proofs.StandingLemmas.{asked_only, asked_served, office_cut, office_then}
use Rattle.cad_event_loop.proofs.GoesLemmas.{serves-so, serves-then}
use Rattle.std.proofs.lemmas.Result.{err_from_is_err_and}
use Rattle.cad_event_loop.proofs.rounds.Rounds.serve_all.Goals as goal

pub returns-in_err-wait-clause-hosts : goal.returns-in_err-wait-clause-hosts
returns-in_err-wait-clause-hosts g c =
    let p = err_from_is_err_and c.from_residual.result c.from_residual.ensures.1 in
    let first = standing g.N.Network.name c.args.self.now in
    let last = standing g.N.Network.name c.wait.new.self in
    rw p.1 (serves-so g.R.Responder g.R.JournalResponder g.R.WorkingResponder.owes (IsAsked first last) (MakesRound 2435 (Err p.0) first last) None _ _ c.args.desk.now c.wait.new.desk _ _ (λ works. asked_only 2435 p.0 first last works (omega arith)) c.in_err-wait.ensures.hosts)

pub returns-in_err-wait-clause-begun : goal.returns-in_err-wait-clause-begun
returns-in_err-wait-clause-begun g c =
    let p = err_from_is_err_and c.from_residual.result c.from_residual.ensures.1 in
    rw (p.1, c.in_err-wait.ensures.offices) c.requires

pub serve_peers-requires : goal.serve_peers-requires
serve_peers-requires g c = rw c.in_ok-wait.ensures.offices c.requires

pub returns-in_err-stopped-clause-hosts : goal.returns-in_err-stopped-clause-hosts
returns-in_err-stopped-clause-hosts g c =
    let p = err_from_is_err_and c.from_residual-in_err-stopped.result c.from_residual-in_err-stopped.ensures.1 in
    let first = standing g.N.Network.name c.args.self.now in
    let mid = standing g.N.Network.name c.wait.new.self in
    let last = standing g.N.Network.name c.serve_peers.new.self in
    rw p.1 (serves-then g.R.Responder g.R.JournalResponder g.R.WorkingResponder.owes (IsAsked first mid) (ServesPeers (Err c.in_err-stopped.field-0.0) mid last) (MakesRound 2435 (Err p.0) first last) None _ _ _ c.args.desk.now c.wait.new.desk c.serve_peers.new.desk _ _ _
    (λ xs ys asked served. record { paced = (asked_served (Err c.in_err-stopped.field-0.0) first mid last xs ys asked (office_cut (Err c.in_err-stopped.field-0.0) mid last ys tt served)).paced; gives = tt })
    c.in_ok-wait.ensures.hosts c.in_err-stopped.ensures.hosts)

pub returns-in_err-stopped-clause-begun : goal.returns-in_err-stopped-clause-begun
returns-in_err-stopped-clause-begun g c =
    let p = err_from_is_err_and c.from_residual-in_err-stopped.result c.from_residual-in_err-stopped.ensures.1 in
    rw p.1 c.in_err-stopped.ensures.begun

pub returns-in-Some-clause-hosts : goal.returns-in-Some-clause-hosts
returns-in-Some-clause-hosts g c =
    let one = rw c.in-Some.is at c.in_ok-stopped.ensures.hosts in
    let first = standing g.N.Network.name c.args.self.now in
    let mid = standing g.N.Network.name c.wait.new.self in
    let last = standing g.N.Network.name c.serve_peers.new.self in
    serves-then g.R.Responder g.R.JournalResponder g.R.WorkingResponder.owes (IsAsked first mid) (ServesPeers {E = Error} (Ok (Some c.in-Some.stopped)) mid last) (MakesRound {E = Error} 2435 (Ok (Some c.in-Some.stopped)) first last) (Some c.in-Some.stopped) _ _ _ c.args.desk.now c.wait.new.desk c.serve_peers.new.desk _ _ _
    (λ xs ys asked served. asked_served {E = Error} (Ok (Some c.in-Some.stopped)) first mid last xs ys asked (office_cut {E = Error} (Ok (Some c.in-Some.stopped)) mid last ys tt served))
    c.in_ok-wait.ensures.hosts one

pub serve_offices-requires : goal.serve_offices-requires
serve_offices-requires g c = rw c.in_default.is at c.in_ok-stopped.ensures.begun

pub returns-clause-hosts : goal.returns-clause-hosts
returns-clause-hosts g c =
    let one = rw c.in_default.is at c.in_ok-stopped.ensures.hosts in
    let first = standing g.N.Network.name c.args.self.now in
    let mid = standing g.N.Network.name c.wait.new.self in
    let served = standing g.N.Network.name c.serve_peers.new.self in
    let last = standing g.N.Network.name c.serve_offices.new.self in
    let both =
    serves-then g.R.Responder g.R.JournalResponder g.R.WorkingResponder.owes (ServesPeers {E = Error} (Ok None) mid served) (ServesOffices 32 c.serve_offices.result served last) (ServesEach {E = Error} 2434 (Ok c.serve_offices.result) mid last) c.serve_offices.result _ _ _ c.wait.new.desk c.serve_peers.new.desk c.serve_offices.new.desk _ _ _
    (λ xs ys. office_then {E = Error} {F = Error} c.serve_offices.result mid served last xs ys) one c.serve_offices.ensures.hosts in
    serves-then g.R.Responder g.R.JournalResponder g.R.WorkingResponder.owes (IsAsked first mid) (ServesEach {E = Error} 2434 (Ok c.serve_offices.result) mid last) (MakesRound {E = Error} 2435 (Ok c.serve_offices.result) first last) c.serve_offices.result _ _ _ c.args.desk.now c.wait.new.desk c.serve_offices.new.desk _ _ _
    (λ xs ys. asked_served {E = Error} (Ok c.serve_offices.result) first mid last xs ys) c.in_ok-wait.ensures.hosts both
