-- A journal of a ledger in memory (own profile).
use Rattle.std.specs.Prelude.{◌≡◌, ◌⊎◌, ◌≤◌, ◌<◌, ℕ, List, length, take, drop}
use Rattle.cad_versions.specs.declared.command.Command.{Command}
use Rattle.cad_versions.specs.declared.fault.RegisterFault.{RegisterFault}
use Rattle.cad_versions.specs.declared.fault.RegisterFault.TheVariants.{Memory, UnknownRevision}
use Rattle.cad_memory_ledger.specs.declared.reading.MemoryReading.{MemoryReading}

-- it is of the commands after this revision
abbrev pub behind_of : MemoryReading → ℕ
behind_of reading = reading.behind

-- up to this one, the newest when it began
abbrev pub newest_of : MemoryReading → ℕ
newest_of reading = reading.newest

abbrev pub commands_of : MemoryReading → List Command
commands_of reading = reading.commands.items

-- it holds the commands of its revisions
pub record HasRead (commands : List Command) (reading : MemoryReading) : Type 0 where
  pub behind : behind_of reading ≤ newest_of reading
  pub newest : newest_of reading ≤ length commands
  pub held : commands_of reading ≡ drop (behind_of reading) (take (newest_of reading) commands)

-- it is of the commands after this revision, and holds all of them
pub record Begins (behind : ℕ) (commands : List Command) (reading : MemoryReading) : Type 0 where
  pub within : behind ≤ length commands
  pub behind_is : behind_of reading ≡ behind
  pub newest_is : newest_of reading ≡ length commands
  pub all : commands_of reading ≡ drop behind commands

-- why none begins: there is no such revision, or memory ran out
abbrev pub IsNoReading : ℕ → List Command → RegisterFault → Type 0
IsNoReading behind commands fault = ((length commands < behind) × (fault ≡ UnknownRevision)) ⊎ ((behind ≤ length commands) × (fault ≡ Memory))
