use Rattle.std.specs.declared.io.Error.{Error}
use Rattle.std.proofs.Common.{None, Some, Ok, Err}
use Rattle.cad_event_loop.specs.Turns.{most_in_round, AreServed}
use Rattle.cad_event_loop.specs.inner.Rounds.{here, standing}
use Rattle.cad_event_loop.specs.inner.Standing.{MakesRound, MadeRounds}
use Rattle.cad_event_loop.proofs.StandingLemmas.{rounds-nil, rounds-then, rounds_end, rounds_spent}
use Rattle.cad_event_loop.proofs.GoesLemmas.{serves-nil, serves-so, serves-then}
use Rattle.cad_event_loop.proofs.HostLemmas.{ended_so}
use Rattle.std.proofs.lemmas.Result.{err_from_is_err_and}
use Rattle.cad_event_loop.proofs.rounds.Rounds.run.Goals as goal

pub loop-init : goal.loop-init
loop-init g c =
    let first = standing g.N.Network.name c.args.self.now in
    (c.requires, serves-nil g.R.Responder g.R.JournalResponder g.R.WorkingResponder.owes (MadeRounds first first) (g.N.Network.history c.args.net.now) c.args.desk.now (here g.N.Network.name c.args.self.now) (rounds-nil first))

pub round-requires : goal.round-requires
round-requires g c = c.loop.invariant.0

pub returns-in_err-stopped : goal.returns-in_err-stopped
returns-in_err-stopped g c =
    let p = err_from_is_err_and c.from_residual.result c.from_residual.ensures.1 in
    let first = standing g.N.Network.name c.args.self.now in
    let mid = standing g.N.Network.name c.loop.self in
    let last = standing g.N.Network.name c.round.new.self in
    rw p.1 (serves-then g.R.Responder g.R.JournalResponder g.R.WorkingResponder.owes (MadeRounds first mid) (MakesRound most_in_round (Err c.in_err-stopped.field-0.0) mid last) (AreServed first) None _ _ _ c.args.desk.now c.loop.desk c.round.new.desk _ _ _
    (λ xs ys. rounds_end (Err c.in_err-stopped.field-0.0) first mid last xs ys) c.loop.invariant.1 c.in_err-stopped.ensures.hosts)

pub returns-in-Some : goal.returns-in-Some
returns-in-Some g c =
    let one = rw c.in-Some.is at c.in_ok-stopped.ensures.hosts in
    let first = standing g.N.Network.name c.args.self.now in
    let mid = standing g.N.Network.name c.loop.self in
    let last = standing g.N.Network.name c.round.new.self in
    ended_so g.R.Responder g.R.JournalResponder g.R.WorkingResponder.owes Error (AreServed first) c.in-Some.stopped _ _ c.args.desk.now c.round.new.desk _ _
    (serves-then g.R.Responder g.R.JournalResponder g.R.WorkingResponder.owes (MadeRounds first mid) (MakesRound {E = Error} most_in_round (Ok (Some c.in-Some.stopped)) mid last) (AreServed first) (Some c.in-Some.stopped) _ _ _ c.args.desk.now c.loop.desk c.round.new.desk _ _ _
    (λ xs ys. rounds_end {E = Error} (Ok (Some c.in-Some.stopped)) first mid last xs ys) c.loop.invariant.1 one)

pub loop-preserved : goal.loop-preserved
loop-preserved g c =
    let begun = rw c.in_default.is at c.in_ok-stopped.ensures.begun in
    let one = rw c.in_default.is at c.in_ok-stopped.ensures.hosts in
    let first = standing g.N.Network.name c.args.self.now in
    let mid = standing g.N.Network.name c.loop.self in
    let last = standing g.N.Network.name c.round.new.self in (
      begun,
      serves-then g.R.Responder g.R.JournalResponder g.R.WorkingResponder.owes (MadeRounds first mid) (MakesRound {E = Error} most_in_round (Ok None) mid last) (MadeRounds first last) None _ _ _ c.args.desk.now c.loop.desk c.round.new.desk _ _ _
          (λ xs ys. rounds-then {E = Error} first mid last xs ys) c.loop.invariant.1 one,
    )

pub returns : goal.returns
returns g c =
    let first = standing g.N.Network.name c.args.self.now in
    let last = standing g.N.Network.name c.loop.self in
    serves-so g.R.Responder g.R.JournalResponder g.R.WorkingResponder.owes (MadeRounds first last) (AreServed first) None _ _ c.args.desk.now c.loop.desk _ _ (λ works. rounds_spent first last works) c.loop.invariant.1
