-- What holds of the rows of every register, and of its journal.
use Rattle.std.specs.Prelude.{◌≡◌, ◌≤◌, ◌-◌, ℕ, List, [], ◌∷◌, ◌++◌, length, map, drop, Some, None, Ok, Err}
use Rattle.sqlite_value.specs.Order.{Row}
use Rattle.sqlite_trees.specs.declared.store.Store.{Ghosts}
use Rattle.cad_tables.specs.VersionRow.{VersionRow, cells_of}
use Rattle.cad_tables.specs.Holding.{Holds}
use Rattle.cad_tables.specs.Listing.{listing}
use Rattle.cad_versions.specs.declared.command.Command.{Command}
use Rattle.cad_versions.specs.declared.fault.RegisterFault.{RegisterFault}
use Rattle.cad_versions.specs.declared.ledger.Ledger.{Ghosts as LedgerGhosts}
use Rattle.cad_versions.specs.LedgerCalls.{Applies}
use Rattle.cad_versions.specs.Refusals.{AreAccepted}
use Rattle.cad_versions.specs.Entries.{Entry, entries_of}
use Rattle.cad_versions.specs.AsOf.{entries_listed}
use Rattle.cad_register.specs.Journal.{commands_behind}
use Rattle.cad_register.specs.Damage.{AreSound}
use Rattle.cad_register.specs.StoredVersions.{IsRowOf}
use Rattle.cad_register.specs.declared.register.Register.{Register}
use Rattle.cad_register.specs.Registers.{state_of, IsRegisterOf}

-- a row represents at most one entry, no matter which form its shape has (own profile)
abbrev pub RowsAreOfOneEntry : Type 0
RowsAreOfOneEntry = (row : Row) (one other : Entry) → IsRowOf row one → IsRowOf row other → one ≡ other

-- of the lines that a register holds, those that a revision lists break no rule of their type, so none is damaged (own profile)
abbrev pub RegisterRowsAreSound : {S : Type 0} → Ghosts S → Type 0
RegisterRowsAreSound {S} g =
    (register : Register S) (commands : List Command) (revision : ℕ) → IsRegisterOf g register commands
    → (lines : List VersionRow) × Holds (length commands) lines (state_of g register).now × AreSound (length commands) None 0 (map cells_of (listing revision lines))

-- ---- the journal (own profile)

-- of the entries that commands make, each revision shows its command, and so all of them together the commands
abbrev pub EntriesGiveTheirCommands : Type 0
EntriesGiveTheirCommands = (commands : List Command) → AreAccepted [] commands → (revision : ℕ) → revision ≤ length commands
    → commands_behind revision (length commands - revision) (entries_of commands) ≡ map Some (drop revision commands)

-- the same in the order in which a register lists its entries
abbrev pub ListingsGiveTheirCommands : Type 0
ListingsGiveTheirCommands = (commands : List Command) → AreAccepted [] commands → (revision : ℕ) → revision ≤ length commands
    → commands_behind revision (length commands - revision) (entries_listed (length commands) (entries_of commands)) ≡ map Some (drop revision commands)

-- each of the commands is accepted by the ledger that the one before it left
abbrev pub Enters : {L : Type 0} → LedgerGhosts L → L → List Command → L → Type 0
Enters g old [] new = new ≡ old
Enters {L} g old (c ∷ cs) new = (mid : L) × (revision : ℕ) × Applies g old c (Ok revision) mid × g.counts mid × Enters g mid cs new

-- a ledger of some commands, into which those of a journal after them are entered, holds all of them
abbrev pub EnteredStandsForAll : {L : Type 0} → LedgerGhosts L → Type 0
EnteredStandsForAll {L} g = (before later : List Command) (old new : L) → g.stands_for old before → Enters g old later new → g.stands_for new (before ++ later)

-- and if one of these is refused, the ledger's store refuses it, never the commands before it
abbrev pub JournalsAreAccepted : {L : Type 0} → LedgerGhosts L → Type 0
JournalsAreAccepted {L} g = (before : List Command) (c : Command) (later : List Command) (old new : L) (fault : RegisterFault)
    → AreAccepted [] (before ++ c ∷ later) → g.stands_for old before → Applies g old c (Err fault) new → g.counts new → g.fails_to_apply before c fault
