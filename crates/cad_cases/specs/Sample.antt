-- The sample register in memory.
use Rattle.std.specs.Prelude.{List}
use Rattle.cad_versions.specs.declared.command.Command.{Command}
use Rattle.cad_memory_ledger.specs.declared.ledger.MemoryLedger.{MemoryLedger}
use Rattle.cad_memory_ledger.specs.Ledgers.{IsLedgerOf}
use Rattle.cad_sample.specs.Sample.{AreSample}

-- the ledger is that of the sample's commands
abbrev pub IsSampleLedger : MemoryLedger → Type 0
IsSampleLedger ledger = (commands : List Command) × AreSample commands × IsLedgerOf ledger commands
