use Rattle.std.specs.declared.io.Error.{Error}
use Rattle.std.proofs.Common.{None, Some, Ok}
use Rattle.cad_event_loop.specs.inner.Rounds.{here, standing}
use Rattle.cad_event_loop.specs.inner.Offices.{offices_at}
use Rattle.cad_event_loop.specs.Hosting.{end_of_round}
use Rattle.cad_event_loop.specs.inner.Standing.{GivesTurnAlone, HearsBetween, VisitsClient}
use Rattle.cad_event_loop.proofs.StandingLemmas.{visit_none, visit_cut, visit_then}
use Rattle.cad_event_loop.proofs.GoesLemmas.{serves-nil, serves-so, serves-then}
use Rattle.cad_event_loop.proofs.rounds.Rounds.serve_client.Goals as goal

pub serve_peer-requires : goal.serve_peer-requires
serve_peer-requires g c = c.is_ready.ensures.0 c.if-not-is_ready.false

pub returns-then-not-is_ready-clause-hosts : goal.returns-then-not-is_ready-clause-hosts
returns-then-not-is_ready-clause-hosts g c =
    let first = standing g.N.Network.name c.args.self.now in
    let none = visit_none {E = Error} c.args.c c.args.self.now.peers (offices_at g.N.Network.name c.args.self.now.offices) (λ may. let told = c.is_ready.ensures.1 may in let not = c.if-not-is_ready.true in cc) in
    serves-nil g.R.Responder g.R.JournalResponder g.R.WorkingResponder.owes (VisitsClient {E = Error} c.args.c 37 (Ok None) first first) (g.N.Network.history c.args.net.now) c.args.desk.now (here g.N.Network.name c.args.self.now) none

pub returns-in-Some-clause-hosts : goal.returns-in-Some-clause-hosts
returns-in-Some-clause-hosts g c =
    let one = rw c.in-Some.is at c.serve_peer.ensures.hosts in
    let first = standing g.N.Network.name c.args.self.now in
    let last = standing g.N.Network.name c.serve_peer.new.self in
    serves-so g.R.Responder g.R.JournalResponder g.R.WorkingResponder.owes (GivesTurnAlone c.args.c 4 first last) (VisitsClient {E = Error} c.args.c 37 (Ok (Some c.in-Some.stopped)) first last) (Some c.in-Some.stopped) _ _ c.args.desk.now c.serve_peer.new.desk _ _ (λ works. visit_cut {E = Error} c.in-Some.stopped c.args.c first last works) one

pub returns-clause-hosts : goal.returns-clause-hosts
returns-clause-hosts g c =
    let one = rw c.in_default.is at c.serve_peer.ensures.hosts in
    let first = standing g.N.Network.name c.args.self.now in
    let mid = standing g.N.Network.name c.serve_peer.new.self in
    let last = standing g.N.Network.name c.serve_offices_between.new.self in
    serves-then g.R.Responder g.R.JournalResponder g.R.WorkingResponder.owes (GivesTurnAlone c.args.c 4 first mid) (HearsBetween 33 c.serve_offices_between.result mid last) (VisitsClient c.args.c 37 c.serve_offices_between.result first last) (end_of_round c.serve_offices_between.result) _ _ _ c.args.desk.now c.serve_peer.new.desk c.serve_offices_between.new.desk _ _ _
    (λ xs ys. visit_then c.serve_offices_between.result c.args.c first mid last xs ys) one c.serve_offices_between.ensures.hosts
