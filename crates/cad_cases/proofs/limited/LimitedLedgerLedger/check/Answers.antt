use Rattle.cad_cases.proofs.limited.LimitedLedgerLedger.check.Goals as goal

pub returns : goal.returns
returns c =
    let checked = c.check.ensures in
    record { accepted = checked.accepted; refused = checked.refused; store = checked.store; damaged = checked.damaged; still = checked.still; kept = checked.kept; unchanged = checked.unchanged; clean = checked.clean }
