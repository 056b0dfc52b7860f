use Rattle.cad_cases.proofs.sample.sample_ledger.Goals as goal

pub returns-in-Ok : goal.returns-in-Ok
returns-in-Ok c = let held = c.in-Ok.ensures.filled tt c.new-ledger.ensures in (held.1.0, held.1.1, held.1.3)
