use Rattle.std.proofs.Common.{ap, sym, ◌∙◌, Some, Bool}
use Rattle.cad_event_loop.specs.inner.Offices.{offices_at}
use Rattle.cad_event_loop.specs.inner.Rounds.{here, standing}
use Rattle.cad_event_loop.specs.inner.Standing.{ServesOffice}
use Rattle.cad_event_loop.proofs.StandingLemmas.{office_unready}
use Rattle.cad_event_loop.proofs.GoesLemmas.{serves-nil}
use Rattle.cad_event_loop.proofs.rounds.Rounds.serve_office.Goals as goal

pub returns-then-not-office-clause-hosts : goal.returns-then-not-office-clause-hosts
returns-then-not-office-clause-hosts g c =
    let first = standing g.N.Network.name c.args.self.now in
    let unready = ap (λ (it : Bool). Some it) (sym c.if-not-office.true) ∙ c.office.ensures in
    let none = office_unready c.args.k c.args.self.now.peers (offices_at g.N.Network.name c.args.self.now.offices) unready in
    serves-nil g.R.Responder g.R.JournalResponder g.R.WorkingResponder.owes (ServesOffice c.args.k 8 first first) (g.N.Network.history c.args.net.now) c.args.desk.now (here g.N.Network.name c.args.self.now) none
