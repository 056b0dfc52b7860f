-- What rows show of the commands that made a register (own profile).
use Rattle.std.specs.Prelude.{◌≡◌, ◌≢◌, ◌-◌, ℕ, List, map, Vec, Some, None, Result, Ok, Err}
use Rattle.std.specs.Global.{Global}
use Rattle.sqlite_value.specs.Order.{Row}
use Rattle.sqlite.specs.State.{State}
use Rattle.cad_versions.specs.declared.command.Command.{Command}
use Rattle.cad_versions.specs.declared.fault.RegisterFault.{RegisterFault}
use Rattle.cad_versions.specs.declared.fault.RegisterFault.TheVariants as fault
use Rattle.cad_versions.specs.Entries.{Entry}
use Rattle.cad_register.specs.Journal.{commands_behind}
use Rattle.cad_register.specs.Damage.{AreShown, AreInOrder, IsFirstDamaged}
use Rattle.cad_register.specs.StoredVersions.{AreRowsOf}

-- each of the rows that are shown, in any order, represents an entry, and these entries show the commands; or they show no command of some
-- revision; or the first row that breaks a rule is named; or memory ran out
abbrev pub GivesCommands : ℕ → ℕ → List Row → Result (Vec Command Global) RegisterFault → Type 0
GivesCommands behind newest shown (Ok found) = (rows : List Row) × (es : List Entry) × AreInOrder shown rows × AreRowsOf rows es × (map Some found.items ≡ commands_behind behind (newest - behind) es)
GivesCommands behind newest shown (Err (fault.Damaged object number)) = (rows : List Row) × AreInOrder shown rows × IsFirstDamaged newest (object, number) None 0 rows
GivesCommands behind newest shown (Err fault.NotARegister) = (rows : List Row) × (es : List Entry) × AreInOrder shown rows × AreRowsOf rows es × ((cs : List Command) → map Some cs ≢ commands_behind behind (newest - behind) es)
GivesCommands behind newest shown (Err fault.Memory) = Unit {0}
GivesCommands behind newest shown (Err other) = ⊥

-- the same of the rows that the database shows for the newest revision, no matter what the disk returns
abbrev pub GivesJournal : State → State → ℕ → ℕ → Result (Vec Command Global) RegisterFault → Type 0
GivesJournal old new behind newest (Err fault.Store) = Unit {0}
GivesJournal old new behind newest (Err fault.Memory) = Unit {0}
GivesJournal old new behind newest result = (shown : List Row) × AreShown old new newest shown × GivesCommands behind newest shown result

-- why a journal is not given, no matter what the disk returns
abbrev pub IsJournalFault : RegisterFault → Type 0
IsJournalFault (fault.Damaged object number) = Unit {0}
IsJournalFault fault.NotARegister = Unit {0}
IsJournalFault fault.Store = Unit {0}
IsJournalFault fault.Memory = Unit {0}
IsJournalFault other = ⊥
