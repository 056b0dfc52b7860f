-- The journal of a file's register on standard output, and how that ends a run (own profile).
use Rattle.std.specs.Prelude.{◌≡◌, ⊤, ℕ, List, ◌++◌, length, Option, Result, Ok, Err}
use Rattle.std.specs.Io.KnownBytes.{Appends}
use Rattle.sqlite_disk.specs.declared.Disk as disk
use Rattle.sqlite_store.specs.declared.store.FileStore.{FileStore}
use Rattle.sqlite_trees.specs.declared.store.Store.{Ghosts}
use Rattle.sqlite.specs.Held.{Held}
use Rattle.sqlite.specs.Recovery.{Image}
use Rattle.cad_io.specs.Writing.{IsFront}
use Rattle.cad_versions.specs.declared.command.Command.{Command}
use Rattle.cad_versions.specs.declared.fault.RegisterFault.{RegisterFault}
use Rattle.cad_register.specs.declared.register.Register.{Register}
use Rattle.cad_register.specs.JournalRows.{IsJournalFault}
use Rattle.cad_register.specs.Stands.{IsStoreFault}
use Rattle.cad_office.specs.JournalLines.{lines_of, end_line}
use Rattle.cadastred_run.specs.declared.outcome.Outcome.{Outcome}
use Rattle.cadastred_run.specs.declared.outcome.Outcome.TheVariants as outcome
use Rattle.cadastred_run.specs.Reading.{ReadsRegister, ReadsFound, ReadsInFile}

-- the line of each command, as the land office takes it, and then the end with the newest revision
abbrev pub journal_of : List Command → List ℕ
journal_of commands = lines_of commands ++ end_line (length commands)

-- what standard output holds before and after
module _ (before after : Option (List ℕ)) where
  -- all the bytes were written, or a front of them if there was an error
  abbrev pub IsPrinted : {E : Type 0} → List ℕ → Result (Unit {0}) E → Type 0
  IsPrinted bytes (Ok done) = Appends before after bytes
  IsPrinted bytes (Err error) = (front : List ℕ) × Appends before after front × IsFront front bytes

  -- the whole journal of these commands was written; or a front of it, and the run failed; or the database refused, and nothing was written
  abbrev pub PrintsJournal : List Command → Outcome → Type 0
  PrintsJournal commands outcome.Good = Appends before after (journal_of commands)
  PrintsJournal commands outcome.Failed = (front : List ℕ) × Appends before after front × IsFront front (journal_of commands)
  PrintsJournal commands (outcome.Register fault) = IsStoreFault fault × (after ≡ before)
  PrintsJournal commands other = ⊥

  -- how such a run ends, no matter what the disk returns
  abbrev pub IsJournalEnd : Outcome → Type 0
  IsJournalEnd outcome.Good = ⊤
  IsJournalEnd outcome.Failed = ⊤
  IsJournalEnd (outcome.Register fault) = IsJournalFault fault × (after ≡ before)
  IsJournalEnd other = ⊥

  -- the journal of a register is written
  abbrev pub PrintsRegister : {S : Type 0} → Ghosts S → Register S → Register S → Outcome → Type 0
  PrintsRegister = ReadsRegister IsJournalEnd PrintsJournal (after ≡ before)

  -- the same if a register is found, and of the register of a file
  abbrev pub PrintsFound : {S : Type 0} → Ghosts S → Result (Register S) (RegisterFault × Held S) → Outcome × Held S → Type 0
  PrintsFound = ReadsFound IsJournalEnd PrintsJournal (after ≡ before)

  abbrev pub PrintsInFile : {D : Type 0} {d : disk.Ghosts D} → Image → Outcome × Held (FileStore D d) → Type 0
  PrintsInFile = ReadsInFile IsJournalEnd PrintsJournal (after ≡ before)
