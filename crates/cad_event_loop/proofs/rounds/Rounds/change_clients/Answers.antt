use Rattle.std.proofs.Common.{None, arith}
use Rattle.cad_event_loop.specs.inner.Offices.{offices_at}
use Rattle.cad_event_loop.specs.inner.Standing.{standings, IsAtDoors}
use Rattle.cad_event_loop.proofs.StandingLemmas.{doors-append}
use Rattle.cad_event_loop.proofs.GoesLemmas.{serves-then}
use Rattle.cad_event_loop.proofs.rounds.Rounds.change_clients.Goals as goal

pub returns-clause-hosts : goal.returns-clause-hosts
returns-clause-hosts g c =
    let office = offices_at g.N.Network.name c.args.self.now.offices in
    let first = standings c.args.self.now.peers office in
    let mid = standings c.drop_overdue.new.self office in
    let last = standings c.take_clients.new.self office in
    serves-then g.R.Responder g.R.JournalResponder g.R.WorkingResponder.owes (IsAtDoors 64 first mid) (IsAtDoors 64 mid last) (IsAtDoors 128 first last) None _ _ _ c.args.desk.now c.drop_overdue.new.desk c.take_clients.new.desk _ _ _
    (λ xs ys. doors-append 64 64 128 first mid last xs ys (omega arith))
    (c.drop_overdue.ensures office) (c.take_clients.ensures office)
