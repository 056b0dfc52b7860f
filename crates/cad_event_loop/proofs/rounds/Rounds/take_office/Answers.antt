use Rattle.std.proofs.Common.{refl, arith}
use Rattle.cad_event_loop.specs.inner.Rounds.{here, standing}
use Rattle.cad_event_loop.specs.inner.Standing.{IsAtDoors}
use Rattle.cad_event_loop.proofs.StandingLemmas.{doors-nil}
use Rattle.cad_event_loop.proofs.GoesLemmas.{serves-nil, serves-same}
use Rattle.cad_event_loop.proofs.rounds.Rounds.take_office.Goals as goal

pub returns-then-not-self-clause-hosts : goal.returns-then-not-self-clause-hosts
returns-then-not-self-clause-hosts g c =
    let first = standing g.N.Network.name c.args.self.now in
    serves-nil g.R.Responder g.R.JournalResponder g.R.WorkingResponder.owes (IsAtDoors 1 first first) (g.N.Network.history c.args.net.now) c.args.desk.now (here g.N.Network.name c.args.self.now) (doors-nil 1 first)

pub returns-in_default-clause-hosts : goal.returns-in_default-clause-hosts
returns-in_default-clause-hosts g c =
    let first = standing g.N.Network.name c.args.self.now in
    serves-nil g.R.Responder g.R.JournalResponder g.R.WorkingResponder.owes (IsAtDoors 1 first first) (g.N.Network.history c.args.net.now) c.args.desk.now (here g.N.Network.name c.args.self.now) (doors-nil 1 first)

pub returns-in-Err-clause-hosts : goal.returns-in-Err-clause-hosts
returns-in-Err-clause-hosts g c =
    let first = standing g.N.Network.name c.args.self.now in
    serves-same g.R.Responder g.R.JournalResponder g.R.WorkingResponder.owes (IsAtDoors 1 first first) _ _ c.args.desk.now (here g.N.Network.name c.args.self.now) (here g.N.Network.name c.args.self.now) c.in-Err.ensures (λ d. refl) (λ k. refl) (record { paced = record { few = omega arith; stand = λ d. refl; offices = λ k. refl; line = refl }; quiet = λ d. refl })
