use Rattle.std.proofs.Common.{ap, ◌∙◌, refl, inl, inr}
use Rattle.cad_network.specs.lemmas.DeedLemmas.{Adds-nil}
use Rattle.cad_server.specs.Servers.{ledger_of}
use Rattle.cadastre_run.specs.lemmas.ReadyLemmas.{desk_ready}
use Rattle.cadastred_run.proofs.ChainingLemmas.{chained_started}
use Rattle.cadastred_run.proofs.hosting.host_over.Goals as goal

pub returns-in-Ok : goal.returns-in-Ok
returns-in-Ok g c =
    inr (record {
      old = c.new-desk.result;
      new = c.host_desk-outcome.new.desk;
      ready = desk_ready g.L.Ledger c.args.ledger c.in-Ok.server c.new-desk.result (chained_started g.L.Ledger c.args.chains c.args.ledger c.in-Ok.server c.in-Ok.ensures) c.new-desk.ensures.responder c.new-desk.ensures.empty;
      hosting = c.host_desk-outcome.ensures;
      back = c.release-in-Ok.ensures ∙ ap ledger_of c.release.ensures;
    })

pub returns-in-Err : goal.returns-in-Err
returns-in-Err g c = inl (record { refused = (c.in-Err.fault, c.in-Err.ledger); why = c.in-Err.ensures; ends = record { ends = refl; back = refl; nothing = (refl, Adds-nil _) } })
