-- Answers the requests of hosted cases, and refuses commands for one object (own profile).
use Rattle.std.proofs.Common.{◌≡◌, ◌⊎◌, ℕ, inl, inr, List}
use Rattle.cad_versions.specs.declared.command.Command.{Command}
use Rattle.cad_versions.specs.declared.fault.RegisterFault.{RegisterFault}
use Rattle.cad_versions.specs.declared.fault.RegisterFault.TheVariants.{NotARegister, Store}
use Rattle.cad_versions.specs.Command.{object_named}
use Rattle.cad_versions.specs.Keeping.{IsOfKeeping}
use Rattle.cad_versions.specs.Objects.{object_number}
use Rattle.cad_memory_ledger.specs.Ledgers.{IsMemory, memory_keeps}
use Rattle.test_support.specs.Echoes.{StandsFor as EchoStandsFor}
use Rattle.cad_memory_ledger.specs.Readings as memory
use Rattle.clients_cases.specs.declared.refusing.Refusing.{Refusing}
use Rattle.clients_cases.specs.declared.refusing.SlowReading.{SlowReading}

-- the ledger of its `Echo` holds the commands
abbrev pub StandsFor : Refusing → List Command → Type 0
StandsFor r commands = EchoStandsFor r.echo commands

-- the command is for the object whose commands are refused
abbrev pub IsOfRefused : Command → Type 0
IsOfRefused command = object_number (object_named command) ≡ 6

-- a command is refused because it is out of memory, or, if it is for that object, as the database would refuse it
abbrev pub FailsToEnter : Command → RegisterFault → Type 0
FailsToEnter command fault = IsMemory fault ⊎ ((fault ≡ Store) × IsOfRefused command)

pub refused_keeps : (command : Command) (fault : RegisterFault) → FailsToEnter command fault → IsOfKeeping fault
refused_keeps command fault (inl e) = memory_keeps fault e
refused_keeps command fault (inr (e, of_refused)) = rw e tt

-- ---- a journal that is read in turns

abbrev pub HasRead : List Command → SlowReading → Type 0
HasRead commands r = memory.HasRead commands r.reading

abbrev pub behind_of : SlowReading → ℕ
behind_of r = memory.behind_of r.reading

abbrev pub newest_of : SlowReading → ℕ
newest_of r = memory.newest_of r.reading

abbrev pub rows_left : SlowReading → ℕ
rows_left r = r.left

-- the database refuses to read it
abbrev pub IsUnread : SlowReading → Type 0
IsUnread r = r.behind ≡ 6

-- why its rows are not read
abbrev pub FailsToRead : RegisterFault → Type 0
FailsToRead fault = (fault ≡ Store) ⊎ (fault ≡ NotARegister)

pub unread_keeps : (fault : RegisterFault) → FailsToRead fault → IsOfKeeping fault
unread_keeps fault (inl e) = rw e tt
unread_keeps fault (inr e) = rw e tt
