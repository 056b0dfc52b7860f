use Rattle.std.proofs.Common.{ap, ◌∙◌, inl, inr, refl}
use Rattle.cad_server.specs.Servers.{ledger_of}
use Rattle.cadastre_run.specs.lemmas.ReadyLemmas.{as_started, desk_ready}
use Rattle.cadastre_run.proofs.listening.listen_over.Goals as goal

pub returns-in-Ok : goal.returns-in-Ok
returns-in-Ok g c =
    inr (record {
      old = c.new-desk.result;
      new = c.listen_at-outcome.new.desk;
      ready = desk_ready g.L.Ledger c.args.ledger c.in-Ok.server c.new-desk.result (as_started g.L.Ledger c.in-Ok.field-0-1 c.args.ledger c.in-Ok.server c.in-Ok.ensures) c.new-desk.ensures.responder c.new-desk.ensures.empty;
      listening = c.listen_at-outcome.ensures;
      back = c.release-in-Ok.ensures ∙ ap ledger_of c.release.ensures;
    })

pub returns-in-Err : goal.returns-in-Err
returns-in-Err g c = inl (record { refused = (c.in-Err.fault, c.in-Err.ledger); why = c.in-Err.ensures; ends = record { ends = refl; back = refl; nothing = (refl, refl) } })
