-- What clauses see of a register.
use Rattle.std.specs.Prelude.{◌≡◌, ◌⊎◌, ◌≤◌, ℕ, List, length, None}
use Rattle.sqlite_disk.specs.Disk.{MoreFaults}
use Rattle.sqlite_trees.specs.declared.store.Store.{Ghosts}
use Rattle.sqlite.specs.State.{State}
use Rattle.sqlite.specs.Held.{Held, state}
use Rattle.cad_tables.specs.Opening.{IsSettled}
use Rattle.cad_versions.specs.declared.command.Command.{Command}
use Rattle.cad_versions.specs.declared.fault.RegisterFault.{RegisterFault}
use Rattle.cad_versions.specs.declared.fault.RegisterFault.TheVariants as fault
use Rattle.cad_versions.specs.Versions.{versions}
use Rattle.cad_versions.specs.Refusals.{refusal}
use Rattle.cad_register.specs.declared.register.Register.{Register}
use Rattle.cad_register.specs.Leaving.{IsAsBefore}
use Rattle.cad_register.specs.Stands.{StandsFor, IsRefusal}

-- the connection that the register holds
abbrev pub connection_of : {S : Type 0} → Register S → Held S
connection_of register = register.connection

-- what that connection shows
abbrev pub state_of : {S : Type 0} → Ghosts S → Register S → State
state_of g register = state g register.connection

abbrev pub revision_of : {S : Type 0} → Register S → ℕ
revision_of register = register.revision

-- the disk failed in between, or refused
abbrev pub HasFailed : {S : Type 0} → Ghosts S → Register S → Register S → Type 0
HasFailed g old new = MoreFaults (state_of g old).faults (state_of g new).faults

-- the register is that of the commands: its tables hold them, and its revision counts them
pub record IsRegisterOf {S : Type 0} (g : Ghosts S) (register : Register S) (commands : List Command) : Type 0 where
  pub stands : StandsFor (state_of g register) commands
  pub counted : revision_of register ≡ length commands

-- it shows the same as before, and counts as many commands
abbrev pub IsStill : {S : Type 0} → Ghosts S → Register S → Register S → Type 0
IsStill g old new = IsAsBefore (state_of g old) (state_of g new) × (revision_of new ≡ revision_of old)

-- its database is as before at a later moment, with the same limit of steps, and it counts as many commands
abbrev pub IsStillSettled : {S : Type 0} → Ghosts S → Register S → Register S → Type 0
IsStillSettled g old new = IsSettled g (connection_of old) (connection_of new) × (revision_of new ≡ revision_of old)

-- nothing was asked of it, or it is still what it was
abbrev pub Remains : {S : Type 0} → Ghosts S → Register S → Register S → Type 0
Remains g old new = (new ≡ old) ⊎ IsStillSettled g old new

-- why apply refuses a command: the cause of the fold, a refusal by the database, or, if the fold has no cause, that the greatest revision
-- that is ever stored was reached
abbrev pub IsRefused : List Command → Command → RegisterFault → Type 0
IsRefused commands command fault.NotARegister = (refusal (versions commands) command ≡ None) × (4294967294 ≤ length commands)
IsRefused commands command other = IsRefusal (refusal (versions commands) command) other
