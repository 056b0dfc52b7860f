-- A run that reads the register of a file and changes nothing, and how it ends (own profile).
use Rattle.std.specs.Prelude.{◌≡◌, ◌≤◌, List, length, Result, Ok, Err, IsTrue}
use Rattle.sqlite_disk.specs.declared.Disk as disk
use Rattle.sqlite_store.specs.declared.store.FileStore.{FileStore}
use Rattle.sqlite_trees.specs.declared.store.Store.{Ghosts}
use Rattle.sqlite.specs.Files.{file_state, over_files}
use Rattle.sqlite.specs.Held.{Held}
use Rattle.sqlite.specs.Recovery.{Image}
use Rattle.sqlite.specs.State.{HasCleanDisk}
use Rattle.cad_tables.specs.Opening.{most_revision}
use Rattle.cad_versions.specs.declared.command.Command.{Command}
use Rattle.cad_versions.specs.declared.fault.RegisterFault.{RegisterFault}
use Rattle.cad_register.specs.declared.register.Register.{Register}
use Rattle.cad_register.specs.Images.{HoldsRegister, IsEmptyFile, IsFindingFault}
use Rattle.cad_register.specs.Registers.{connection_of, state_of, IsRegisterOf}
use Rattle.cad_register.specs.Running.{RunsInFile}
use Rattle.cad_register.specs.Surviving.{Leaves}
use Rattle.cad_serve.specs.Statuses.{EndsWithout}
use Rattle.cadastred_run.specs.declared.outcome.Outcome.{Outcome}
use Rattle.cadastred_run.specs.declared.outcome.Outcome.TheVariants as outcome

-- how the run may end, no matter what the disk returns; what it does over the register of some commands; or that it does nothing
module _ (MayEnd : Outcome → Type 0) (Does : List Command → Outcome → Type 0) (DoesNothing : Type 0) where
  -- it is the register of the same commands while its connection is open, and a crash leaves it
  pub record ReadsRegister {S : Type 0} (g : Ghosts S) (old new : Register S) (ended : Outcome) : Type 0 where
    pub ends : MayEnd ended
    pub clean : HasCleanDisk (state_of g new) → HasCleanDisk (state_of g old)
    pub does : HasCleanDisk (state_of g new) → (commands : List Command) → IsRegisterOf g old commands → Does commands ended
    pub keeps : HasCleanDisk (state_of g new) → IsTrue (state_of g new).is_open → (commands : List Command) → IsRegisterOf g old commands → IsRegisterOf g new commands
    pub crash : HasCleanDisk (state_of g new) → (commands : List Command) → IsRegisterOf g old commands → Leaves (state_of g new) commands

  -- if a register is found, the database's connection is given back after that; else the run ends for this cause, and nothing is done
  abbrev pub ReadsFound : {S : Type 0} → Ghosts S → Result (Register S) (RegisterFault × Held S) → Outcome × Held S → Type 0
  ReadsFound g (Err refused) ended = EndsWithout DoesNothing (outcome.Register refused.0) refused.1 ended
  ReadsFound {S} g (Ok register) ended = (left : Register S) × (ended.1 ≡ connection_of left) × ReadsRegister g register left ended.0

  -- a run over a file that held this at first: its register is found, and none is made
  pub record ReadsInFile {D : Type 0} {d : disk.Ghosts D} (image : Image) (ended : Outcome × Held (FileStore D d)) : Type 0 where
    pub runs : RunsInFile image (ReadsFound over_files) ended
    -- what it does if the file held the register of these commands
    pub held : HasCleanDisk (file_state ended.1) → (commands : List Command) → HoldsRegister image commands → length commands ≤ most_revision → Does commands ended.0
    -- if it was empty, nothing is done
    pub empty : HasCleanDisk (file_state ended.1) → IsEmptyFile image → DoesNothing

-- how a run ends whose file is not opened
abbrev pub IsUnfound : Outcome → Type 0
IsUnfound (outcome.Register fault) = IsFindingFault fault
IsUnfound other = ⊥
