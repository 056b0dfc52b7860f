use Rattle.cad_server.proofs.CallLemmas.{told_sought}
use Rattle.cad_server.proofs.records.Records.answer.Goals as goal

pub returns-in_ok-told-in-Ok : goal.returns-in_ok-told-in-Ok
returns-in_ok-told-in-Ok g c =
    told_sought g.L.Ledger c.args.sought c.args.self.now c.seek.new.self c.in-Ok.found c.in_ok-told-in-Ok.told c.in-Ok.ensures c.in_ok-told-in-Ok.ensures
