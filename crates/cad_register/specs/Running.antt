-- Runs over the database of a register, and over its file (own profile).
use Rattle.std.specs.Prelude.{◌≤◌, List, [], length, IfOk}
use Rattle.sqlite_disk.specs.declared.Disk as disk
use Rattle.sqlite_store.specs.declared.store.FileStore.{FileStore}
use Rattle.sqlite_trees.specs.declared.store.Store.{Ghosts}
use Rattle.sqlite.specs.Files.{file_state, over_files}
use Rattle.sqlite.specs.Held.{Held, state}
use Rattle.sqlite.specs.Recovery.{Image}
use Rattle.sqlite.specs.State.{HasCleanDisk}
use Rattle.cad_tables.specs.Opening.{most_revision}
use Rattle.cad_versions.specs.declared.command.Command.{Command}
use Rattle.cad_register.specs.Images.{HoldsRegister, IsEmptyFile, FindsRegister}
use Rattle.cad_register.specs.Opening.{Outcome, Opened, OpenedOrCreated, connection_in, IsFoundAs}
use Rattle.cad_register.specs.Registers.{IsRegisterOf}

-- a run over a database: its register is opened or refused, and the work is done over that result
pub record RunsOver {S O : Type 0} (Opens : Held S → Outcome S → Type 0) (Works : Outcome S → O × Held S → Type 0) (lent : Held S) (ended : O × Held S) : Type 0 where
  pub found : Outcome S
  pub opened : Opens lent found
  pub works : Works found ended

module _ {S : Type 0} (g : Ghosts S) (image : Image) (found : Outcome S) where
  abbrev IsClean : Type 0
  IsClean = HasCleanDisk (state g (connection_in found))

  -- the register is that of the commands which the files held; in an empty file none is found
  pub record IsFoundIn : Type 0 where
    pub held : IsClean → (commands : List Command) → HoldsRegister image commands → length commands ≤ most_revision → IsFoundAs g commands found
    pub empty : IsClean → IsEmptyFile image → IfOk found (λ _. ⊥)

  -- the register is that of the commands which the files held; in an empty file it is that of no commands
  pub record IsFoundOrMadeIn : Type 0 where
    pub held : IsClean → (commands : List Command) → HoldsRegister image commands → length commands ≤ most_revision → IsFoundAs g commands found
    pub empty : IsClean → IsEmptyFile image → IfOk found (λ register. IsRegisterOf g register [])

-- a run over the files of a register, which held this at first
module _ {D O : Type 0} {d : disk.Ghosts D} (image : Image) (Works : Outcome (FileStore D d) → O × Held (FileStore D d) → Type 0) (ended : O × Held (FileStore D d)) where
  -- their database is opened, the register that they held is found, and none is made; the work is done over that
  pub record RunsInFile : Type 0 where
    pub lent : Held (FileStore D d)
    pub finds : FindsRegister image (file_state lent)
    pub runs : RunsOver (Opened over_files) Works lent ended
    pub begins : IsFoundIn over_files image runs.found

  -- the same, but a register is made if none exists
  pub record RunsInFileOrNew : Type 0 where
    pub lent : Held (FileStore D d)
    pub finds : FindsRegister image (file_state lent)
    pub runs : RunsOver (OpenedOrCreated over_files) Works lent ended
    pub begins : IsFoundOrMadeIn over_files image runs.found
