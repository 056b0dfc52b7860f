use Rattle.std.proofs.Common.{None, arith}
use Rattle.cad_event_loop.specs.inner.Rounds.{standing}
use Rattle.cad_event_loop.specs.inner.Standing.{IsAtDoors}
use Rattle.cad_event_loop.proofs.StandingLemmas.{doors-append}
use Rattle.cad_event_loop.proofs.GoesLemmas.{serves-then}
use Rattle.cad_event_loop.proofs.rounds.Rounds.change_offices.Goals as goal

pub returns-clause-hosts : goal.returns-clause-hosts
returns-clause-hosts g c =
    let first = standing g.N.Network.name c.args.self.now in
    let mid = standing g.N.Network.name c.drop_offices.new.self in
    let last = standing g.N.Network.name c.take_office.new.self in
    serves-then g.R.Responder g.R.JournalResponder g.R.WorkingResponder.owes (IsAtDoors 4 first mid) (IsAtDoors 1 mid last) (IsAtDoors 5 first last) None _ _ _ c.args.desk.now c.drop_offices.new.desk c.take_office.new.desk _ _ _
    (λ xs ys. doors-append 4 1 5 first mid last xs ys (omega arith)) c.drop_offices.ensures.hosts c.take_office.ensures.hosts
