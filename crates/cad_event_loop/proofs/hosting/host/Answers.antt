use Rattle.std.specs.declared.io.Error.{Error}
use Rattle.cad_event_loop.proofs.HostLemmas.{hosted_so, nobody_is}
use Rattle.std.proofs.Common.{◌≡◌, ℕ, Option, inl, ap, sym, subst}
use Rattle.cad_clients.specs.declared.client.Client.{Client}
use Rattle.cad_event_loop.specs.Turns.{nobody, AreServed}
use Rattle.cad_event_loop.specs.declared.office.Office.{Office}
use Rattle.cad_event_loop.specs.inner.Offices.{office_at, HasBegun}
use Rattle.cad_event_loop.specs.inner.Line.{standing_of}
use Rattle.cad_event_loop.specs.inner.Standing.{flag_at, standing_office}
use Rattle.cad_event_loop.proofs.StandingLemmas.{served_alike}
use Rattle.cad_event_loop.proofs.GoesLemmas.{serves-so}
use Rattle.cad_event_loop.specs.Hosting.{end_of_rounds}
use Rattle.cad_event_loop.specs.inner.Rounds.{here, standing}
use Rattle.cad_event_loop.proofs.HostLemmas.{hosted_by, unhosted}
use Rattle.std.proofs.lemmas.Result.{err_from_is_err_and}
use Rattle.cad_event_loop.proofs.hosting.host.Goals as goal

pub returns-in_err-rounds-clause-hosted : goal.returns-in_err-rounds-clause-hosted
returns-in_err-rounds-clause-hosted g c =
    let p = err_from_is_err_and c.from_residual.result c.from_residual.ensures.1 in
    rw p.1 (inl (unhosted g.R.Responder g.R.JournalResponder g.R.WorkingResponder.owes (g.N.Network.history c.args.net.now) c.args.desk.now))

pub run-hosted-requires : goal.run-hosted-requires
run-hosted-requires g c = record { each = λ k. subst (λ (o : Option (Office _ _)). HasBegun o) (sym (c.in_ok-rounds.ensures.1 k)) tt }

pub returns-clause-hosted : goal.returns-clause-hosted
returns-clause-hosted g c =
    let first = nobody_is g.N.Network.name c.in_ok-rounds.rounds c.in_ok-rounds.ensures in
    let rounds = c.in_ok-rounds.rounds in
    let stand = standing g.N.Network.name rounds in
    let clients : ((d : ℕ) → nobody.clients d ≡ stand.clients d) = (λ d. sym (ap (λ (o : Option (Client _ _)). standing_of o) (c.in_ok-rounds.ensures.0 d))) in
    let offices : ((k : ℕ) → nobody.offices k ≡ stand.offices k) = (λ k. sym (ap (λ (o : Option (Office _ _)). standing_office (office_at g.N.Network.name o) (flag_at rounds.peers.ready k)) (c.in_ok-rounds.ensures.1 k))) in
    let served =
    serves-so g.R.Responder g.R.JournalResponder g.R.WorkingResponder.owes (AreServed stand) (AreServed nobody) (end_of_rounds c.run-hosted.result) _ _ c.args.desk.now c.run-hosted.new.desk _ _
    (λ works. served_alike stand nobody works (clients, offices, sym c.in_ok-rounds.ensures.2)) c.run-hosted.ensures in
    let all = hosted_by g.R.Responder g.R.JournalResponder g.R.WorkingResponder.owes (end_of_rounds c.run-hosted.result) _ _ _ c.args.desk.now c.run-hosted.new.desk c.end-ended.new.desk (here g.N.Network.name c.in_ok-rounds.rounds) (here g.N.Network.name c.run-hosted.new.self) (here g.N.Network.name c.end-ended.new.self) first c.end-ended.ensures.nobody served c.end-ended.ensures.hosts in
    hosted_so g.R.Responder g.R.JournalResponder g.R.WorkingResponder.owes Error c.run-hosted.result c.last_of.result _ _ c.args.desk.now c.end-ended.new.desk c.last_of.ensures.last all
