use Rattle.std.proofs.Common.{refl}
use Rattle.cad_server.proofs.CallLemmas.{looked}
use Rattle.cad_server.proofs.records.Records.look.Goals as goal

pub returns-clause-found : goal.returns-clause-found
returns-clause-found g c =
    looked g.L.Ledger c.args.revision c.args.self.now c.make_snapshot.new.self _ c.in_ok-snapshot.snapshot c.in_ok-shared.shared c.in_ok-snapshot.ensures.made refl c.add.ensures
    c.in_ok-shared.ensures c.requires
