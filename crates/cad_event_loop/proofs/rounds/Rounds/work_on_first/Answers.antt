use Rattle.std.specs.declared.io.Error.{Error}
use Rattle.std.proofs.Common.{None, Ok}
use Rattle.cad_event_loop.specs.Hosting.{end_of_round}
use Rattle.cad_event_loop.specs.inner.Rounds.{here, standing}
use Rattle.cad_event_loop.specs.inner.Standing.{GivesPiece, HearsBetween, WorksOnFirst}
use Rattle.cad_event_loop.proofs.StandingLemmas.{works_on_then, works_on_none}
use Rattle.cad_event_loop.proofs.GoesLemmas.{serves-nil, serves-then}
use Rattle.cad_event_loop.proofs.rounds.Rounds.work_on_first.Goals as goal

pub returns-in_default-clause-hosts : goal.returns-in_default-clause-hosts
returns-in_default-clause-hosts g c =
    let first = standing g.N.Network.name c.args.self.now in
    serves-nil g.R.Responder g.R.JournalResponder g.R.WorkingResponder.owes (WorksOnFirst {E = Error} (Ok None) first first) (g.N.Network.history c.args.net.now) c.args.desk.now (here g.N.Network.name c.args.self.now) (works_on_none {E = Error} first c.in_default.ensures)

pub serve_offices_between-requires : goal.serve_offices_between-requires
serve_offices_between-requires g c = rw c.work_for.ensures.offices c.requires

pub returns-clause-hosts : goal.returns-clause-hosts
returns-clause-hosts g c =
    let first = standing g.N.Network.name c.args.self.now in
    let mid = standing g.N.Network.name c.work_for.new.self in
    let last = standing g.N.Network.name c.serve_offices_between.new.self in
    serves-then g.R.Responder g.R.JournalResponder g.R.WorkingResponder.owes (GivesPiece c.in-Some.c first mid) (HearsBetween 33 c.serve_offices_between.result mid last) (WorksOnFirst c.serve_offices_between.result first last) (end_of_round c.serve_offices_between.result) _ _ _ c.args.desk.now c.work_for.new.desk c.serve_offices_between.new.desk _ _ _
    (λ xs ys. works_on_then c.serve_offices_between.result c.in-Some.c first mid last xs ys c.in-Some.ensures) c.work_for.ensures.hosts c.serve_offices_between.ensures.hosts
