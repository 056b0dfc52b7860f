-- Listening at an address over a register's file, and how that ends a run (own profile).
use Rattle.std.specs.Prelude.{◌≡◌, ℕ, List, Option, Result, Ok, Err}
use Rattle.sqlite_disk.specs.declared.Disk as disk
use Rattle.sqlite_store.specs.declared.store.FileStore.{FileStore}
use Rattle.sqlite_trees.specs.declared.store.Store as store
use Rattle.sqlite.specs.Files.{over_files}
use Rattle.sqlite.specs.Held.{Held}
use Rattle.sqlite.specs.Recovery.{Image}
use Rattle.cad_versions.specs.declared.fault.RegisterFault.{RegisterFault}
use Rattle.cad_register.specs.declared.register.Register.{Register}
use Rattle.cad_register.specs.Registers.{connection_of}
use Rattle.cad_register.specs.Ledgers.{register_as_ledger}
use Rattle.cad_register.specs.Running.{RunsInFile}
use Rattle.cad_serve.specs.Statuses.{EndsWithout}
use Rattle.cadastre_run.specs.declared.command.Service.{Service}
use Rattle.cadastre_run.specs.declared.outcome.Outcome.{Outcome}
use Rattle.cadastre_run.specs.declared.outcome.Outcome.TheVariants as outcome
use Rattle.cadastre_run.specs.Listening.{IsSilent, ListensOver}

-- what standard output and standard error hold before and after
module _ (service : Service) (before after quiet told : Option (List ℕ)) where
  -- connections are served over the register, and the database's connection is given back
  pub record ListensOverRegister {S : Type 0} (g : store.Ghosts S) (register : Register S) (ended : Outcome × Held S) : Type 0 where
    pub left : Register S
    pub listens : ListensOver service before after quiet told (register_as_ledger g) register (ended.0, left)
    pub back : ended.1 ≡ connection_of left

  -- there is no register: the run ends for this cause and nothing is written
  abbrev pub ServesFound : {S : Type 0} → store.Ghosts S → Result (Register S) (RegisterFault × Held S) → Outcome × Held S → Type 0
  ServesFound g (Err refused) ended = EndsWithout (IsSilent service before after quiet told) (outcome.Register refused.0) refused.1 ended
  ServesFound g (Ok register) ended = ListensOverRegister g register ended

  -- listening over a file that held this at first: its register is found before the address is read, and none is made
  abbrev pub ServesInFile : {D : Type 0} {d : disk.Ghosts D} → Image → Outcome × Held (FileStore D d) → Type 0
  ServesInFile image ended = RunsInFile image (ServesFound over_files) ended
