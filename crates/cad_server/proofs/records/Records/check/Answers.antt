use Rattle.std.proofs.Common.{refl}
use Rattle.cad_server.proofs.KeptLemmas.{checked}
use Rattle.cad_server.proofs.records.Records.check.Goals as goal

pub returns : goal.returns
returns g c = checked g.L.Ledger c.args.command.now c.check.result c.args.self.now _ refl c.check.ensures
