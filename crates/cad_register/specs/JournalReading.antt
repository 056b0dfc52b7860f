-- A journal that is read in pieces, between which the register accepts commands (own profile).
use Rattle.std.specs.Prelude.{◌≡◌, ◌≢◌, ◌≤◌, ◌⊎◌, ◌+◌, ◌-◌, ℕ, ℤ, pos, nat_le, Bool, if◌then◌else◌, List, [], ◌∷◌, ◌++◌, length, map, take, Vec, Option, Some, Result, Ok, Err}
use Rattle.std.specs.Global.{Global}
use Rattle.std.specs.List.{AllZip}
use Rattle.sqlite_value.specs.declared.value.Value.TheVariants.{Int}
use Rattle.sqlite_value.specs.Order.{Row}
use Rattle.sqlite.specs.State.{State, HasCleanDisk, Shown}
use Rattle.cad_tables.specs.Texts.{range_text}
use Rattle.cad_versions.specs.declared.command.Command.{Command}
use Rattle.cad_versions.specs.declared.fault.RegisterFault.{RegisterFault}
use Rattle.cad_versions.specs.declared.fault.RegisterFault.TheVariants as fault
use Rattle.cad_versions.specs.Entries.{Entry, entries_of}
use Rattle.cad_versions.specs.Refusals.{AreAccepted}
use Rattle.cad_register.specs.declared.journal_reading.JournalReading.{JournalReading}
use Rattle.cad_register.specs.declared.stored_version.StoredVersion.{StoredVersion}
use Rattle.cad_register.specs.Damage.{identifier_in, HasRevisions}
use Rattle.cad_register.specs.Journal.{commands_behind}
use Rattle.cad_register.specs.StoredVersions.{IsRowOf, entry_of}
use Rattle.cad_register.specs.inner.Gathering.{slots_of}

-- ---- what a reading holds

-- it is of the commands after this revision
abbrev pub behind_of : JournalReading → ℕ
behind_of reading = reading.gathering.behind

-- up to this one, the newest when it began
abbrev pub newest_of : JournalReading → ℕ
newest_of reading = reading.newest

-- the rows at the places up to this one were read; the row that was entered first has place 1
abbrev pub rows_read : JournalReading → ℕ
rows_read reading = reading.read

-- so many rows were not read yet that may show one of the commands
abbrev pub rows_left : JournalReading → ℕ
rows_left reading = newest_of reading - rows_read reading

-- for each of its revisions the command, as far as the rows that were read show it
abbrev pub commands_held : JournalReading → List (Option Command)
commands_held reading = slots_of reading.gathering.slots

-- a command enters one row at most, so the rows that were entered up to a revision have no later places
abbrev pub is_whole : JournalReading → Bool
is_whole reading = nat_le (newest_of reading) (rows_read reading)

-- it holds what these entries show
abbrev pub Holds : List Entry → JournalReading → Type 0
Holds entries reading = commands_held reading ≡ commands_behind (behind_of reading) (newest_of reading - behind_of reading) entries

-- of a register of these commands, it holds what the entries that were entered first show, as many as rows were read
pub record HasRead (commands : List Command) (reading : JournalReading) : Type 0 where
  pub accepted : AreAccepted [] commands
  pub behind : behind_of reading ≤ newest_of reading
  pub newest : newest_of reading ≤ length commands
  pub within : rows_read reading ≤ newest_of reading
  pub holds : Holds (take (rows_read reading) (entries_of commands)) reading

-- it is of the commands after this revision, up to that one, and no row was read
pub record Begins (behind newest : ℕ) (reading : JournalReading) : Type 0 where
  pub behind_is : behind_of reading ≡ behind
  pub newest_is : newest_of reading ≡ newest
  pub none_read : rows_read reading ≡ 0
  pub holds : Holds [] reading

-- further commands change nothing of what it holds
abbrev pub ReadingsStay : Type 0
ReadingsStay = (commands later : List Command) (reading : JournalReading) → AreAccepted [] (commands ++ later) → HasRead commands reading → HasRead (commands ++ later) reading

-- ---- the next rows

-- the place up to which they are read, at most this many
abbrev pub next_place : ℕ → JournalReading → ℕ
next_place most reading = if nat_le (newest_of reading) (rows_read reading + most) then newest_of reading else rows_read reading + most

-- it is of the same revisions, and those rows were read
pub record HasReadOn (most : ℕ) (old new : JournalReading) : Type 0 where
  pub behind_is : behind_of new ≡ behind_of old
  pub newest_is : newest_of new ≡ newest_of old
  pub rows_are : rows_read new ≡ next_place most old

-- rows up to this place were read, and what it holds is what these entries show as well
pub record HasNoted (entries : List Entry) (place : ℕ) (old new : JournalReading) : Type 0 where
  pub behind_is : behind_of new ≡ behind_of old
  pub newest_is : newest_of new ≡ newest_of old
  pub rows_are : rows_read new ≡ place
  pub holds : (earlier : List Entry) → Holds earlier old → Holds (earlier ++ entries) new

-- ---- rows, no matter which rows are before them

-- the row represents the entry, which was entered and closed at revisions of a register with this newest revision
pub record IsSoundRow (newest : ℕ) (row : Row) (e : Entry) : Type 0 where
  pub shows : IsRowOf row e
  pub revisions : HasRevisions newest e

abbrev pub AreSoundRows : ℕ → List Row → List Entry → Type 0
AreSoundRows newest = AllZip (IsSoundRow newest)

-- this is the identifier of the first row that represents no such entry
abbrev pub IsFirstUnsound : ℕ → ℤ × ℤ → List Row → Type 0
IsFirstUnsound newest id [] = ⊥
IsFirstUnsound newest id (row ∷ rows) =
    ((identifier_in row ≡ id) × ((e : Entry) → ¬ IsSoundRow newest row e)) ⊎ (((e : Entry) × IsSoundRow newest row e) × IsFirstUnsound newest id rows)

-- why rows are not read: out of memory, or the first row that represents no such entry
abbrev pub IsUnsoundIn : ℕ → List Row → RegisterFault → Type 0
IsUnsoundIn newest rows (fault.Damaged object number) = IsFirstUnsound newest (object, number) rows
IsUnsoundIn newest rows fault.Memory = Unit {0}
IsUnsoundIn newest rows other = ⊥

-- ---- no matter what the disk returns

-- the database shows these rows for the places behind one, up to another, by its own account
abbrev pub AreShownBetween : State → State → ℕ → ℕ → List Row → Type 0
AreShownBetween old new behind up_to rows = HasCleanDisk new → Shown range_text (Int (pos behind) ∷ Int (pos up_to) ∷ []) old new rows

-- each row that it shows represents an entry of a register with this newest revision, or the first that does not is named
abbrev pub ReadsSound : State → State → ℕ → ℕ → ℕ → Result (Vec StoredVersion Global) RegisterFault → Type 0
ReadsSound old new behind up_to newest (Ok found) = (rows : List Row) × AreShownBetween old new behind up_to rows × AreSoundRows newest rows (map entry_of found.items)
ReadsSound old new behind up_to newest (Err (fault.Damaged object number)) = (rows : List Row) × AreShownBetween old new behind up_to rows × IsFirstUnsound newest (object, number) rows
ReadsSound old new behind up_to newest (Err fault.Store) = Unit {0}
ReadsSound old new behind up_to newest (Err fault.Memory) = Unit {0}
ReadsSound old new behind up_to newest (Err other) = ⊥

-- the reading also holds what the next rows show, or the first of them that represents no entry is named
abbrev pub ReadsOn : State → State → ℕ → ℕ → JournalReading → JournalReading → Result Bool RegisterFault → Type 0
ReadsOn old new newest most before after (Ok whole) =
    (rows : List Row) × (entries : List Entry) × AreShownBetween old new (rows_read before) (next_place most before) rows × AreSoundRows newest rows entries × HasNoted entries (next_place most before) before after
ReadsOn old new newest most before after (Err (fault.Damaged object number)) =
    (rows : List Row) × AreShownBetween old new (rows_read before) (next_place most before) rows × IsFirstUnsound newest (object, number) rows
ReadsOn old new newest most before after (Err fault.Store) = Unit {0}
ReadsOn old new newest most before after (Err fault.Memory) = Unit {0}
ReadsOn old new newest most before after (Err other) = ⊥

-- the commands are those that are held, or none is held of some revision, or memory ran out
abbrev pub GivesHeld : List (Option Command) → Result (Vec Command Global) RegisterFault → Type 0
GivesHeld held (Ok found) = map Some found.items ≡ held
GivesHeld held (Err fault.NotARegister) = (commands : List Command) → map Some commands ≢ held
GivesHeld held (Err fault.Memory) = Unit {0}
GivesHeld held (Err other) = ⊥
