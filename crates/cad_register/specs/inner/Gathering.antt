-- The commands of a register while its entries are noted, one after the other (own profile).
use Rattle.std.specs.Prelude.{◌≡◌, ◌≢◌, ℕ, ◌+◌, ◌==◌, Bool, true, false, if◌then◌else◌, List, [], ◌∷◌, map, Vec, Option, Some, None, Result, Ok, Err}
use Rattle.std.specs.Global.{Global}
use Rattle.cad_versions.specs.declared.command.Command.{Command}
use Rattle.cad_versions.specs.declared.command.Command.TheVariants.{Retire}
use Rattle.cad_versions.specs.declared.fault.RegisterFault.{RegisterFault}
use Rattle.cad_versions.specs.declared.fault.RegisterFault.TheVariants as fault
use Rattle.cad_versions.specs.Entries.{Entry}
use Rattle.cad_register.specs.declared.gathering.Gathering.{Gathering}
use Rattle.cad_register.specs.declared.slots.Slots.{Slots}
use Rattle.cad_register.specs.inner.Slots.{slots_in}
use Rattle.cad_register.specs.Journal.{ended_at, or_next, commands_behind}

-- what the slots hold
abbrev pub slots_of : Slots → List (Option Command)
slots_of slots = slots_in slots.commands.items slots.given.items

-- the slot of one of these revisions is changed
abbrev pub changed : ℕ → ℕ → (Option Command → Option Command) → List (Option Command) → List (Option Command)
changed behind revision change [] = []
changed behind revision change (o ∷ os) = (if behind + 1 == revision then change o else o) ∷ changed (behind + 1) revision change os

-- the slots are changed where the entry ended
abbrev pub ended_in : ℕ → Entry → List (Option Command) → List (Option Command)
ended_in behind e [] = []
ended_in behind e (o ∷ os) = or_next o (ended_at (behind + 1) e) ∷ ended_in (behind + 1) e os

-- a retirement, in an empty slot
abbrev pub retired : Command → Option Command → Option Command
retired c o = or_next o (Some c)

-- a version that began, also over an end
abbrev pub begun_over : Command → Option Command → Option Command
begun_over c None = Some c
begun_over c (Some (Retire object last)) = Some c
begun_over c (Some other) = Some other

-- the slot is empty, or has an end
abbrev pub takes_beginning : Option Command → Bool
takes_beginning None = true
takes_beginning (Some (Retire object last)) = true
takes_beginning (Some other) = false

-- its slots are the commands of this many revisions after this one, as these entries show them
pub record Gathers (behind count : ℕ) (entries : List Entry) (gathering : Gathering) : Type 0 where
  pub behind_is : gathering.behind ≡ behind
  pub commands_are : slots_of gathering.slots ≡ commands_behind behind count entries

-- the commands that were gathered, if there is one for each revision
abbrev pub IsGivenBy : Gathering → Result (Vec Command Global) RegisterFault → Type 0
IsGivenBy gathering (Ok found) = (behind count : ℕ) (es : List Entry) → Gathers behind count es gathering → map Some found.items ≡ commands_behind behind count es
IsGivenBy gathering (Err fault.NotARegister) = (behind count : ℕ) (es : List Entry) → Gathers behind count es gathering → (cs : List Command) → map Some cs ≢ commands_behind behind count es
IsGivenBy gathering (Err other) = ⊥
