-- A land register as a ledger.
use Rattle.std.specs.Prelude.{◌≡◌, ◌≤◌, ℕ, ℤ, pos, List, [], ◌∷◌, length, IsTrue, None, Err}
use Rattle.sqlite_value.specs.declared.value.Value.TheVariants.{Int}
use Rattle.sqlite_value.specs.Order.{Row}
use Rattle.sqlite_trees.specs.declared.store.Store.{Ghosts}
use Rattle.sqlite.specs.declared.error.Error.{Error}
use Rattle.sqlite.specs.State.{FailsToQuery, HasCleanDisk}
use Rattle.cad_tables.specs.Texts.{listing_text, range_text}
use Rattle.cad_versions.specs.declared.ledger.Ledger as ledger
use Rattle.cad_versions.specs.Keeping.{IsOfKeeping}
use Rattle.cad_versions.specs.declared.command.Command.{Command}
use Rattle.cad_versions.specs.declared.fault.RegisterFault.{RegisterFault}
use Rattle.cad_versions.specs.declared.fault.RegisterFault.TheVariants as fault
use Rattle.cad_versions.specs.Versions.{versions}
use Rattle.cad_versions.specs.Refusals.{refusal}
use Rattle.cad_register.specs.declared.register.Register.{Register}
use Rattle.cad_register.specs.declared.journal_reading.JournalReading.{JournalReading}
use Rattle.cad_register.specs.Damage.{ReadsRows}
use Rattle.cad_register.specs.JournalReading.{rows_read, next_place, AreShownBetween, IsFirstUnsound}
use Rattle.cad_register.specs.Naming.{FirstBreaks}
use Rattle.cad_register.specs.Refusing.{IsNotForMemory, RefusesToApply, command_questions}
use Rattle.cad_register.specs.Registers.{connection_of, state_of, revision_of, IsRegisterOf, Remains, HasFailed}
use Rattle.cad_register.specs.Stands.{IsStoreFault}

-- the connection is open
abbrev pub IsOpen : {S : Type 0} → Ghosts S → Register S → Type 0
IsOpen g register = IsTrue (state_of g register).is_open

-- why a command is refused although the commands before it allow it
abbrev pub IsCut : List Command → Command → RegisterFault → Type 0
IsCut commands command fault.NotARegister = (refusal (versions commands) command ≡ None) × (4294967294 ≤ length commands)
IsCut commands command other = IsStoreFault other

-- what the database refuses of a command
abbrev pub RefusesCommand : {S : Type 0} → Ghosts S → Register S → Register S → Command → ℕ → Type 0
RefusesCommand g old new command revision = RefusesToApply g (connection_of old) (connection_of new) command revision

-- what it refuses of a listing
abbrev pub RefusesListing : {S : Type 0} → Ghosts S → Register S → Register S → ℕ → Type 0
RefusesListing g old new revision =
    (e : Error) × IsNotForMemory e × FailsToQuery listing_text (Int (pos revision) ∷ []) (state_of g old) (state_of g new) e

-- when asked for the command, the database shows this damaged row, the first of all that it shows
abbrev pub DamagedForCommand : {S : Type 0} → Ghosts S → Register S → Register S → Command → ℤ → ℤ → Type 0
DamagedForCommand g old new command object number =
    FirstBreaks g (connection_of new) (command_questions command (revision_of old)) object number (connection_of old)

-- when asked for the revision, it shows such a row
abbrev pub DamagedForListing : {S : Type 0} → Ghosts S → Register S → Register S → ℕ → ℤ → ℤ → Type 0
DamagedForListing g old new revision object number =
    ReadsRows (state_of g old) (state_of g new) revision (revision_of old) (Err (fault.Damaged object number))

-- what it refuses of the next rows of a journal
abbrev pub RefusesReading : {S : Type 0} → Ghosts S → Register S → Register S → JournalReading → ℕ → Type 0
RefusesReading g old new reading most =
    (e : Error) × IsNotForMemory e × FailsToQuery range_text (Int (pos (rows_read reading)) ∷ Int (pos (next_place most reading)) ∷ []) (state_of g old) (state_of g new) e

-- when asked for these rows, it shows such a row, the first of them that represents no entry of the register
abbrev pub DamagedForReading : {S : Type 0} → Ghosts S → Register S → Register S → JournalReading → ℕ → ℤ → ℤ → Type 0
DamagedForReading g old new reading most object number =
    (rows : List Row) × AreShownBetween (state_of g old) (state_of g new) (rows_read reading) (next_place most reading) rows × IsFirstUnsound (revision_of old) (object, number) rows

-- the register as a ledger of its commands
abbrev pub register_as_ledger : {S : Type 0} → Ghosts S → ledger.Ghosts (Register S)
register_as_ledger g = record {
  stands_for = IsRegisterOf g;
  counts = λ register. HasCleanDisk (state_of g register);
  lives = IsOpen g;
  fails = HasFailed g;
  newest = revision_of;
  fails_to_apply = IsCut;
  fails_to_list = λ _ _. IsStoreFault;
  refuses_command = RefusesCommand g;
  refuses_listing = RefusesListing g;
  damaged_for_command = DamagedForCommand g;
  damaged_for_listing = DamagedForListing g;
  remains = Remains g;
}

pub store_keeps : (why : RegisterFault) → IsStoreFault why → IsOfKeeping why
store_keeps fault.Store h = tt
store_keeps fault.Memory h = tt
store_keeps why h = absurd h

pub cut_keeps : (commands : List Command) (command : Command) (why : RegisterFault) → IsCut commands command why → IsOfKeeping why
cut_keeps commands command fault.NotARegister h = tt
cut_keeps commands command fault.Store h = tt
cut_keeps commands command fault.Memory h = tt
cut_keeps commands command why h = absurd h
