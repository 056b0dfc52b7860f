use Rattle.std.specs.declared.io.Error.{Error}
use Rattle.std.proofs.Common.{None, Some, Ok, arith}
use Rattle.cad_event_loop.specs.inner.Rounds.{standing}
use Rattle.cad_event_loop.specs.inner.Standing.{IsAtDoors, MakesRound}
use Rattle.cad_event_loop.specs.Turns.{most_in_round}
use Rattle.cad_event_loop.proofs.StandingLemmas.{round_cut, round_then}
use Rattle.cad_event_loop.proofs.GoesLemmas.{serves-so, serves-then}
use Rattle.cad_event_loop.proofs.rounds.Rounds.round.Goals as goal

pub returns-in-Some-clause-hosts : goal.returns-in-Some-clause-hosts
returns-in-Some-clause-hosts g c =
    let one = rw c.in-Some.is at c.in_ok-stopped.ensures.hosts in
    let first = standing g.N.Network.name c.args.self.now in
    let last = standing g.N.Network.name c.serve_all.new.self in
    serves-so g.R.Responder g.R.JournalResponder g.R.WorkingResponder.owes (MakesRound {E = Error} 2435 (Ok (Some c.in-Some.stopped)) first last) (MakesRound {E = Error} most_in_round (Ok (Some c.in-Some.stopped)) first last) (Some c.in-Some.stopped) _ _ c.args.desk.now c.serve_all.new.desk _ _
    (λ works. round_cut {E = Error} (Ok (Some c.in-Some.stopped)) 2435 most_in_round first last works (omega arith)) one

pub change_offices-requires : goal.change_offices-requires
change_offices-requires g c =
    let begun = rw c.in_default.is at c.in_ok-stopped.ensures.begun in
    rw c.change_clients.ensures.offices begun

pub returns-clause-hosts : goal.returns-clause-hosts
returns-clause-hosts g c =
    let one = rw c.in_default.is at c.in_ok-stopped.ensures.hosts in
    let first = standing g.N.Network.name c.args.self.now in
    let served = standing g.N.Network.name c.serve_all.new.self in
    let changed = standing g.N.Network.name c.change_clients.new.self in
    let last = standing g.N.Network.name c.change_offices.new.self in
    let both =
    serves-then g.R.Responder g.R.JournalResponder g.R.WorkingResponder.owes (MakesRound {E = Error} 2435 (Ok None) first served) (IsAtDoors 128 served changed) (MakesRound {E = Error} 2563 (Ok None) first changed) None _ _ _ c.args.desk.now c.serve_all.new.desk c.change_clients.new.desk _ _ _
    (λ xs ys. round_then {E = Error} {F = Error} (Ok None) 2435 128 2563 first served changed xs ys (omega arith)) one c.change_clients.ensures.hosts in
    serves-then g.R.Responder g.R.JournalResponder g.R.WorkingResponder.owes (MakesRound {E = Error} 2563 (Ok None) first changed) (IsAtDoors 5 changed last) (MakesRound {E = Error} most_in_round (Ok None) first last) None _ _ _ c.args.desk.now c.change_clients.new.desk c.change_offices.new.desk _ _ _
    (λ xs ys. round_then {E = Error} {F = Error} (Ok None) 2563 5 most_in_round first changed last xs ys (omega arith)) both c.change_offices.ensures.hosts
