use Rattle.std.specs.declared.io.Error.{Error}
use Rattle.std.proofs.Common.{Option, None, Ok, Err, ap}
use Rattle.std.proofs.lemmas.Result.{err_from_is_err_and}
use Rattle.cad_event_loop.specs.declared.office.Office.{Office}
use Rattle.cad_event_loop.specs.inner.Offices.{office_at}
use Rattle.cad_event_loop.specs.inner.Rounds.{here, standing}
use Rattle.cad_event_loop.specs.inner.Standing.{flag_at, standing_office, HearsBetween, IsAsked, ServesOffices}
use Rattle.cad_event_loop.proofs.StandingLemmas.{hears_then, hears_cut, hears_none}
use Rattle.cad_event_loop.proofs.GoesLemmas.{serves-nil, serves-so, serves-then}
use Rattle.cad_event_loop.proofs.rounds.Rounds.serve_offices_between.Goals as goal

pub returns-in_err-wait-clause-hosts : goal.returns-in_err-wait-clause-hosts
returns-in_err-wait-clause-hosts g c =
    let p = err_from_is_err_and c.from_residual.result c.from_residual.ensures.1 in
    let first = standing g.N.Network.name c.args.self.now in
    let last = standing g.N.Network.name c.wait.new.self in
    rw p.1 (serves-so g.R.Responder g.R.JournalResponder g.R.WorkingResponder.owes (IsAsked first last) (HearsBetween 33 (Err p.0) first last) None _ _ c.args.desk.now c.wait.new.desk _ _ (λ works. hears_cut p.0 first last works) c.in_err-wait.ensures.hosts)

pub returns-clause-hosts : goal.returns-clause-hosts
returns-clause-hosts g c =
    let first = standing g.N.Network.name c.args.self.now in
    let mid = standing g.N.Network.name c.wait.new.self in
    let last = standing g.N.Network.name c.serve_offices.new.self in
    serves-then g.R.Responder g.R.JournalResponder g.R.WorkingResponder.owes (IsAsked first mid) (ServesOffices 32 c.serve_offices.result mid last) (HearsBetween {E = Error} 33 (Ok c.serve_offices.result) first last) c.serve_offices.result _ _ _ c.args.desk.now c.wait.new.desk c.serve_offices.new.desk _ _ _
    (λ xs ys. hears_then {E = Error} c.serve_offices.result first mid last xs ys)
    c.in_ok-wait.ensures.hosts c.serve_offices.ensures.hosts

pub returns-then-is_empty-clause-hosts : goal.returns-then-is_empty-clause-hosts
returns-then-is_empty-clause-hosts g c =
    let first = standing g.N.Network.name c.args.self.now in
    let none = c.is_empty.ensures c.if-is_empty.true in
    serves-nil g.R.Responder g.R.JournalResponder g.R.WorkingResponder.owes (HearsBetween {E = Error} 33 (Ok None) first first) (g.N.Network.history c.args.net.now) c.args.desk.now (here g.N.Network.name c.args.self.now)
    (hears_none first (λ k. ap (λ (o : Option (Office _ _)). standing_office (office_at g.N.Network.name o) (flag_at c.args.self.now.peers.ready k)) (none k)))
