-- Entering commands into the register of a file (own profile).
use Rattle.std.specs.Prelude.{◌≡◌, ℕ, List, Option, Result, Ok, Err}
use Rattle.sqlite_disk.specs.declared.Disk as disk
use Rattle.sqlite_store.specs.declared.store.FileStore.{FileStore}
use Rattle.sqlite_trees.specs.declared.store.Store.{Ghosts}
use Rattle.sqlite.specs.Files.{over_files}
use Rattle.sqlite.specs.Held.{Held}
use Rattle.sqlite.specs.Recovery.{Image}
use Rattle.cad_versions.specs.declared.command.Command.{Command}
use Rattle.cad_versions.specs.declared.fault.RegisterFault.{RegisterFault}
use Rattle.cad_versions.specs.LedgerCalls.{Applies}
use Rattle.cad_register.specs.declared.register.Register.{Register}
use Rattle.cad_register.specs.Registers.{connection_of}
use Rattle.cad_register.specs.Ledgers.{register_as_ledger}
use Rattle.cad_register.specs.Running.{RunsInFileOrNew}
use Rattle.cadastre_run.specs.declared.outcome.Outcome.{Outcome}
use Rattle.cadastre_run.specs.Entering.{EndsOffice}
use Rattle.cadastre_run.specs.FileAsking.{EndsUnfound}

module _ {S : Type 0} (g : Ghosts S) (from to before after : Option (List ℕ)) (AtEnd : Type 0) where
  -- what a land register does with a command
  abbrev pub AppliesTo : Register S → Command → Result ℕ RegisterFault → Register S → Type 0
  AppliesTo = Applies (register_as_ledger g)

  -- the lines are entered into the register, and the database's connection is given back
  pub record EntersInto (register : Register S) (ended : Outcome × Held S) : Type 0 where
    pub left : Register S
    pub office : EndsOffice AppliesTo from to before after AtEnd register ended.0 left
    pub back : ended.1 ≡ connection_of left

  abbrev pub EntersOver : Result (Register S) (RegisterFault × Held S) → Outcome × Held S → Type 0
  EntersOver (Err refused) ended = EndsUnfound g from to before after AtEnd refused ended
  EntersOver (Ok register) ended = EntersInto register ended

-- the office over a file that held this at first: its register is found, or made if it does not exist, before anything is read
abbrev pub EntersInFile : {D : Type 0} {d : disk.Ghosts D} → Image → (from to before after : Option (List ℕ)) → Type 0 → Outcome × Held (FileStore D d) → Type 0
EntersInFile image from to before after AtEnd ended = RunsInFileOrNew image (EntersOver over_files from to before after AtEnd) ended
