-- Lines checked on a copy of a file's register, and how that ends a run (own profile).
use Rattle.std.specs.Prelude.{◌⊎◌, ◌<◌, ⊤, ℕ, List, length, Option, Result}
use Rattle.sqlite_disk.specs.declared.Disk as disk
use Rattle.sqlite_store.specs.declared.store.FileStore.{FileStore}
use Rattle.sqlite_trees.specs.declared.memory.MemStore.{MemStore}
use Rattle.sqlite_trees.specs.declared.store.Store.{Ghosts}
use Rattle.sqlite.specs.Held.{Held}
use Rattle.sqlite.specs.Recovery.{Image}
use Rattle.sqlite.specs.Steps.{over_memory}
use Rattle.cad_versions.specs.declared.command.Command.{Command}
use Rattle.cad_tables.specs.Opening.{most_revision}
use Rattle.cad_versions.specs.declared.fault.RegisterFault.{RegisterFault}
use Rattle.cad_versions.specs.declared.fault.RegisterFault.TheVariants as fault
use Rattle.cad_register.specs.declared.register.Register.{Register}
use Rattle.cad_register.specs.Ledgers.{register_as_ledger}
use Rattle.cad_register.specs.Registers.{IsRegisterOf}
use Rattle.cad_register.specs.Stands.{IsStoreFault}
use Rattle.cadastred_run.specs.declared.outcome.Outcome.{Outcome}
use Rattle.cadastred_run.specs.declared.outcome.Outcome.TheVariants as outcome
use Rattle.cadastred_run.specs.Checking.{EndsCheck, IsUntouched}
use Rattle.cadastred_run.specs.Reading.{ReadsRegister, ReadsFound, ReadsInFile}

-- how such a run ends, no matter what the disk returns
abbrev pub IsCheckEnd : Outcome → Type 0
IsCheckEnd outcome.Good = ⊤
IsCheckEnd outcome.Refused = ⊤
IsCheckEnd (outcome.Lines fault) = ⊤
IsCheckEnd (outcome.Register fault) = ⊤
IsCheckEnd other = ⊥

-- why the commands of a register are not read or not copied: a database refused, or memory ran out; a register in memory holds no more
-- commands than any other
abbrev pub IsUncopied : List Command → RegisterFault → Type 0
IsUncopied commands fault.NotARegister = most_revision < length commands
IsUncopied commands other = IsStoreFault other

-- what standard input has left, and what standard output holds, before and after
module _ (from to before after : Option (List ℕ)) (AtEnd : Type 0) where
  -- these commands are not copied: nothing is read or written
  abbrev pub IsUnchecked : List Command → Outcome → Type 0
  IsUnchecked commands (outcome.Register fault) = IsUncopied commands fault × IsUntouched from to before after
  IsUnchecked commands other = ⊥

  -- the lines are reported as a register in memory answers them, one after the other, which is that of these commands at first
  pub record ChecksLines (commands : List Command) (ended : Outcome) : Type 0 where
    pub copy : Register MemStore
    pub last : Register MemStore
    pub holds : IsRegisterOf over_memory copy commands
    pub checks : EndsCheck from to before after AtEnd (register_as_ledger over_memory) copy ended last

  abbrev pub ChecksAfter : List Command → Outcome → Type 0
  ChecksAfter commands ended = IsUnchecked commands ended ⊎ ChecksLines commands ended

  -- lines are checked on a copy of a register
  abbrev pub ChecksRegister : {S : Type 0} → Ghosts S → Register S → Register S → Outcome → Type 0
  ChecksRegister = ReadsRegister IsCheckEnd ChecksAfter (IsUntouched from to before after)

  -- the same if a register is found, and of the register of a file
  abbrev pub ChecksFound : {S : Type 0} → Ghosts S → Result (Register S) (RegisterFault × Held S) → Outcome × Held S → Type 0
  ChecksFound = ReadsFound IsCheckEnd ChecksAfter (IsUntouched from to before after)

  abbrev pub ChecksInFile : {D : Type 0} {d : disk.Ghosts D} → Image → Outcome × Held (FileStore D d) → Type 0
  ChecksInFile = ReadsInFile IsCheckEnd ChecksAfter (IsUntouched from to before after)
