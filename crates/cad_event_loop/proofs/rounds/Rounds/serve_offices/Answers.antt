use Rattle.std.proofs.Common.{◌+◌, None, Some, arith}
use Rattle.cad_event_loop.specs.inner.Offices.{offices_at}
use Rattle.cad_event_loop.specs.inner.Rounds.{here, standing}
use Rattle.cad_event_loop.specs.inner.Standing.{ServesOffice, ServesOfficesBelow, ServesOffices}
use Rattle.cad_event_loop.proofs.StandingLemmas.{offices-nil, offices-then, offices_served, offices_cut, offices_beyond}
use Rattle.cad_event_loop.proofs.GoesLemmas.{serves-nil, serves-so, serves-then}
use Rattle.cad_event_loop.proofs.rounds.Rounds.serve_offices.Goals as goal

pub loop-k-init : goal.loop-k-init
loop-k-init g c =
    let first = standing g.N.Network.name c.args.self.now in
    (c.requires, serves-nil g.R.Responder g.R.JournalResponder g.R.WorkingResponder.owes (ServesOfficesBelow 0 first first) (g.N.Network.history c.args.net.now) c.args.desk.now (here g.N.Network.name c.args.self.now) (offices-nil first))

pub serve_office-requires-clause-begun : goal.serve_office-requires-clause-begun
serve_office-requires-clause-begun g c = c.loop-k.invariant.0

pub returns-in-Some-clause-hosts : goal.returns-in-Some-clause-hosts
returns-in-Some-clause-hosts g c =
    let one = rw c.in-Some.is at c.serve_office.ensures.hosts in
    let test = c.loop-k-test.true in
    let first = standing g.N.Network.name c.args.self.now in
    let mid = standing g.N.Network.name c.loop-k.self in
    let last = standing g.N.Network.name c.serve_office.new.self in
    serves-then g.R.Responder g.R.JournalResponder g.R.WorkingResponder.owes (ServesOfficesBelow c.loop-k.k first mid) (ServesOffice c.loop-k.k 8 mid last) (ServesOffices 32 (Some c.in-Some.stopped) first last) (Some c.in-Some.stopped) _ _ _ c.args.desk.now c.loop-k.desk c.serve_office.new.desk _ _ _
    (λ xs ys. offices_cut c.in-Some.stopped c.loop-k.k first mid last xs ys (omega (arith, test))) c.loop-k.invariant.1 one

pub loop-k-preserved : goal.loop-k-preserved
loop-k-preserved g c =
    let begun = rw c.in_default.is at c.serve_office.ensures.begun in
    let one = rw c.in_default.is at c.serve_office.ensures.hosts in
    let first = standing g.N.Network.name c.args.self.now in
    let mid = standing g.N.Network.name c.loop-k.self in
    let last = standing g.N.Network.name c.serve_office.new.self in (
      begun,
      serves-then g.R.Responder g.R.JournalResponder g.R.WorkingResponder.owes (ServesOfficesBelow c.loop-k.k first mid) (ServesOffice c.loop-k.k 8 mid last) (ServesOfficesBelow (c.loop-k.k + 1) first last) None _ _ _ c.args.desk.now c.loop-k.desk c.serve_office.new.desk _ _ _
          (λ xs ys. offices-then c.loop-k.k first mid last xs ys) c.loop-k.invariant.1 one,
    )

pub returns-clause-hosts : goal.returns-clause-hosts
returns-clause-hosts g c =
    let test = c.loop-k-test.false in
    let end = c.loop-k.auto.k-end in
    let first = standing g.N.Network.name c.args.self.now in
    let last = standing g.N.Network.name c.loop-k.self in
    serves-so g.R.Responder g.R.JournalResponder g.R.WorkingResponder.owes (ServesOfficesBelow c.loop-k.k first last) (ServesOffices 32 None first last) None _ _ c.args.desk.now c.loop-k.desk _ _
    (λ works. offices_served c.loop-k.k first last works (offices_beyond c.args.self.now.peers (offices_at g.N.Network.name c.args.self.now.offices)) (omega (arith, test)) (omega (arith, end))) c.loop-k.invariant.1

pub returns-clause-begun : goal.returns-clause-begun
returns-clause-begun g c = c.loop-k.invariant.0
