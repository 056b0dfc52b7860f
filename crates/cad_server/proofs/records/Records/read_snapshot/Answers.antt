use Rattle.std.proofs.Common.{sym, ◌∙◌}
use Rattle.cad_server.proofs.CallLemmas.{listed_after}
use Rattle.cad_server.proofs.records.Records.read_snapshot.Goals as goal

pub returns-in-Err : goal.returns-in-Err
returns-in-Err g c =
    listed_after g.L.Ledger g.met.L.Ledger.remains_then g.met.L.Ledger.fails_before c.args.revision c.args.self.now c.prepare.new.self c.list_snapshot.new.self c.in-Err.fault c.list_snapshot.result
    (sym c.is_damage.ensures ∙ c.if-is_damage.true) c.in-Err.ensures.prepared c.list_snapshot.ensures
