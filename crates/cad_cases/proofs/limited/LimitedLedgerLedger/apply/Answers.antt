use Rattle.cad_cases.proofs.limited.LimitedLedgerLedger.apply.Goals as goal

pub returns : goal.returns
returns c =
    let applied = c.apply.ensures in
    record { accepted = applied.accepted; refused = applied.refused; store = applied.store; damaged = applied.damaged; unchanged = applied.unchanged; clean = applied.clean }
