-- The register of the files that a program finds (SQLite, Atomic Commit; own profile).
use Rattle.std.specs.Prelude.{◌≡◌, ◌⊎◌, List, length, IsTrue}
use Rattle.sqlite_trees.specs.Tree.{Trees}
use Rattle.sqlite.specs.Recovery.{Image}
use Rattle.sqlite.specs.State.{State, HasCleanDisk}
use Rattle.sqlite.specs.declared.error.Error.{Error}
use Rattle.sqlite.specs.declared.error.Error.TheVariants.{SqliteFailure}
use Rattle.sqlite.specs.declared.error.ErrorCode.TheVariants.{OutOfMemory}
use Rattle.sqlite.specs.Opening.{is_open_error}
use Rattle.sqlite.specs.Files.{HoldsDatabase}
use Rattle.cad_tables.specs.Tables.{no_schema}
use Rattle.cad_versions.specs.declared.command.Command.{Command}
use Rattle.cad_versions.specs.declared.fault.RegisterFault.{RegisterFault}
use Rattle.cad_versions.specs.declared.fault.RegisterFault.TheVariants as register
use Rattle.cad_register.specs.Surviving.{IsDiskOf, IsOpenedOn}

-- the database that the files recover to is the register of the commands
abbrev pub HoldsRegister : Image → List Command → Type 0
HoldsRegister image commands = (trees : Trees) × HoldsDatabase image trees × IsDiskOf commands trees

-- the database file has no byte, as one that was just made (SQLite, Database File Format)
abbrev pub IsEmptyFile : Image → Type 0
IsEmptyFile image = length image.db ≡ 0

-- the connection is as an open gives it over that register, or over no table if the file was empty
pub record FindsRegister (image : Image) (s : State) : Type 0 where
  pub held : HasCleanDisk s → (commands : List Command) → HoldsRegister image commands → IsOpenedOn commands s
  pub empty : HasCleanDisk s → IsEmptyFile image → s.now.schema ≡ no_schema

-- why the file of a register is not opened: out of memory, or the database (SQLite, Result and Error Codes, SQLITE_NOMEM)
abbrev pub opening_fault : Error → RegisterFault
opening_fault (SqliteFailure OutOfMemory) = register.Memory
opening_fault other = register.Store

-- it reports one of the errors that an open may have
abbrev pub IsOpeningFault : RegisterFault → Type 0
IsOpeningFault fault = (e : Error) × IsTrue (is_open_error e) × (fault ≡ opening_fault e)

-- why the register of a file that must exist is not found: there is no register, or the file is not opened
abbrev pub IsFindingFault : RegisterFault → Type 0
IsFindingFault fault = (fault ≡ register.NotARegister) ⊎ IsOpeningFault fault
