-- A plain ledger (own profile).
use Rattle.std.specs.Prelude.{◌≡◌, List, [], length}
use Rattle.cad_versions.specs.declared.command.Command.{Command}
use Rattle.cad_versions.specs.declared.fault.RegisterFault.{RegisterFault}
use Rattle.cad_versions.specs.declared.fault.RegisterFault.TheVariants.{Memory}
use Rattle.cad_versions.specs.Keeping.{IsOfKeeping}
use Rattle.cad_versions.specs.Refusals.{AreAccepted}
use Rattle.cad_versions.specs.Entries.{entries_of}
use Rattle.cad_memory_ledger.specs.declared.ledger.MemoryLedger.{MemoryLedger}

-- the commands were accepted one after the other; their entries are kept, and so are they; they are counted
pub record IsLedgerOf (ledger : MemoryLedger) (commands : List Command) : Type 0 where
  pub accepted : AreAccepted [] commands
  pub kept : ledger.versions ≡ entries_of commands
  pub held : ledger.commands.items ≡ commands
  pub counted : ledger.revision ≡ length commands

abbrev pub IsMemory : RegisterFault → Type 0
IsMemory fault = fault ≡ Memory

pub memory_keeps : (fault : RegisterFault) → IsMemory fault → IsOfKeeping fault
memory_keeps fault e = rw e tt
