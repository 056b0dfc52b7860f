use Rattle.cad_server.proofs.ChainLemmas.{keeps_chain}
use Rattle.cad_server.proofs.records.Records.keep_chain.Goals as goal

pub returns : goal.returns
returns g c = keeps_chain g.L.Ledger g.L.JournalLedger c.args.self.now _ c.in_ok-chain.chain c.in_ok-chain.ensures c.keep_chain.ensures
