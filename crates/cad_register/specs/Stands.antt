-- The tables of a register.
use Rattle.std.specs.Prelude.{◌≡◌, ℕ, List, length, [], IsTrue, Result, MatchResult, ◌⊎◌, ◌+◌, ◌++◌, ◌∷◌, Option, Some, None}
use Rattle.cad_versions.specs.declared.fault.RegisterFault.{RegisterFault}
use Rattle.cad_versions.specs.declared.fault.RegisterFault.TheVariants as fault
use Rattle.sqlite.specs.Effect.{IsDatabase}
use Rattle.sqlite.specs.State.{State}
use Rattle.cad_versions.specs.declared.command.Command.{Command}
use Rattle.cad_versions.specs.declared.command.Command.TheVariants.{Amend}
use Rattle.cad_versions.specs.Versions.{history, versions}
use Rattle.cad_versions.specs.Refusals.{refusal, AreAccepted}
use Rattle.cad_versions.specs.Entries.{entries_of}
use Rattle.cad_register.specs.StoredVersions.{HoldsEntries}

-- the tables hold the commands: these were accepted one after the other, and rows that represent their entries are stored and committed in
-- a database whose catalog lists its tables and whose rows keep their constraints, as each open connection's does (own profile)
pub record StandsFor (s : State) (commands : List Command) : Type 0 where
  pub accepted : AreAccepted [] commands
  pub holds : HoldsEntries (length commands) (entries_of commands) s.now
  pub sound : IsDatabase s.now
  pub settled : s.committed ≡ s.now
  pub live : IsTrue s.is_open

-- a call on the tables of a register returns something, or why not; in both cases the tables hold the same commands, as long as the
-- connection is open
abbrev pub Tells : {X : Type 0} → State → State → Result X RegisterFault → (List Command → X → Type 0) → (List Command → RegisterFault → Type 0) → Type 0
Tells old new result Told Refused =
    (commands : List Command) → StandsFor old commands → MatchResult result (λ x. Told commands x × StandsFor new commands) (λ fault. Refused commands fault × (IsTrue new.is_open → StandsFor new commands))

-- the database refused for another cause than memory, or memory ran out
abbrev pub IsStoreFault : RegisterFault → Type 0
IsStoreFault fault.Store = Unit {0}
IsStoreFault fault.Memory = Unit {0}
IsStoreFault other = ⊥

-- why a revision that was made is not listed, no matter what the disk returns
abbrev pub IsReadingFault : RegisterFault → Type 0
IsReadingFault (fault.Damaged object number) = Unit {0}
IsReadingFault fault.Store = Unit {0}
IsReadingFault fault.Memory = Unit {0}
IsReadingFault other = ⊥

-- why a command is refused: the cause of the fold, or the database refused; tables that hold commands are never found damaged
abbrev pub IsRefusal : Option RegisterFault → RegisterFault → Type 0
IsRefusal cause fault = (cause ≡ Some fault) ⊎ IsStoreFault fault

-- the next number of an object, for an amendment
abbrev pub IsNumbered : List Command → Command → ℕ → Type 0
IsNumbered commands (Amend object first body) number = number ≡ length (history object (versions commands)) + 1
IsNumbered commands command number = Unit {0}

-- tables that held the commands before hold them and the new one, if it is accepted, its number is the next and the revision counts it
abbrev pub Enacts : State → State → Command → ℕ → ℕ → Type 0
Enacts old new command number revision =
    (commands : List Command) → StandsFor old commands → refusal (versions commands) command ≡ None → IsNumbered commands command number → revision ≡ length commands + 1 → StandsFor new (commands ++ command ∷ [])
