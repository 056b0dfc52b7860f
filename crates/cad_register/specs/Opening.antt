-- What making and opening a register do (SQLite, Opening A New Database Connection and Atomic Commit; own profile).
use Rattle.std.specs.Prelude.{◌≡◌, ◌≢◌, ◌⊎◌, ◌≤◌, true, false, List, [], length, Some, None, Result, Ok, Err, IfOk, IfErr, MatchResult, IsTrue}
use Rattle.sqlite_trees.specs.declared.store.Store.{Ghosts}
use Rattle.sqlite.specs.declared.error.Error.{Error}
use Rattle.sqlite.specs.State.{HasCleanDisk}
use Rattle.sqlite.specs.Held.{Held, state}
use Rattle.cad_tables.specs.Tables.{no_schema, is_standing}
use Rattle.cad_tables.specs.Steps.{KeepsAll}
use Rattle.cad_tables.specs.Faults.{fault_of}
use Rattle.cad_tables.specs.Opening.{most_revision, IsSettled, TellsRegister, RefusesTables, RefusesRegister}
use Rattle.cad_tables.specs.declared.faults.TableFault.{TableFault}
use Rattle.cad_versions.specs.declared.command.Command.{Command}
use Rattle.cad_versions.specs.declared.fault.RegisterFault.{RegisterFault}
use Rattle.cad_versions.specs.declared.fault.RegisterFault.TheVariants.{NotARegister}
use Rattle.cad_register.specs.declared.register.Register.{Register}
use Rattle.cad_register.specs.Leaving.{IsLater, IsAsBefore, AsksOnly}
use Rattle.cad_register.specs.Refusing.{register_fault_of}
use Rattle.cad_register.specs.Registers.{connection_of, revision_of, IsRegisterOf}
use Rattle.cad_register.specs.Stands.{StandsFor, IsStoreFault}
use Rattle.cad_register.specs.Surviving.{IsOpenedOn, Leaves, LeavesOrMakes}

-- a register over the connection that was lent, or the cause and the connection
abbrev pub Outcome : Type 0 → Type 0
Outcome S = Result (Register S) (RegisterFault × Held S)

-- the connection that is given back
abbrev pub connection_in : {S : Type 0} → Outcome S → Held S
connection_in (Ok register) = connection_of register
connection_in (Err refused) = refused.1

abbrev pub without_connection : {S : Type 0} → Outcome S → Result (Register S) RegisterFault
without_connection (Ok register) = Ok register
without_connection (Err refused) = Err refused.0

-- it is the register of the commands; or it is refused, and not as no register
abbrev pub IsFoundAs : {S : Type 0} → Ghosts S → List Command → Outcome S → Type 0
IsFoundAs g commands result = MatchResult result (λ register. IsRegisterOf g register commands) (λ refused. refused.0 ≢ NotARegister)

module _ {S : Type 0} (g : Ghosts S) (lent : Held S) (result : Outcome S) where
  abbrev IsClean : Type 0
  IsClean = HasCleanDisk (state g (connection_in result))

  -- if neither name was in use, an empty database becomes the register of no commands; if one was, or the database refuses, all stays as it
  -- was; a crash leaves the database as it was, or that register
  pub record Created : Type 0 where
    pub made : IsClean → IfOk result (λ register. lent.schema ≡ no_schema → IsRegisterOf g register [])
    pub free : IsClean → IfOk result (λ register. is_standing lent.schema ≡ false)
    pub taken : IsClean → IfErr result (λ refused. refused.0 ≡ NotARegister → (is_standing lent.schema ≡ true) × IsSettled g lent refused.1)
    pub cause : IfErr result (λ refused. refused.0 ≢ NotARegister → IsStoreFault refused.0)
    pub store : IsClean → IfErr result (λ refused. refused.0 ≢ NotARegister → (e : Error) × (refused.0 ≡ register_fault_of (fault_of e)) × RefusesTables g e lent refused.1)
    pub unchanged : IsClean → IfErr result (λ refused. IsTrue (state g refused.1).is_open → KeepsAll (state g lent) (state g refused.1))
    pub later : IsLater (state g lent) (state g (connection_in result))
    pub crash : IsClean → LeavesOrMakes (state g lent) (state g (connection_in result))

  -- the register has the revision that the database reports; it is not a register if and only if the database says that a table, a column
  -- or the row of `state` is missing, or the row has another format or no revision; the database stays as it was passed in
  pub record Opened : Type 0 where
    pub found : IsClean → IfOk result (λ register. TellsRegister g lent (connection_of register) (Some (revision_of register)))
    pub missing : IsClean → IfErr result (λ refused. refused.0 ≡ NotARegister → TellsRegister g lent refused.1 None)
    pub cause : IfErr result (λ refused. refused.0 ≢ NotARegister → IsStoreFault refused.0)
    pub store : IsClean → IfErr result (λ refused. refused.0 ≢ NotARegister → (fault : TableFault) × (refused.0 ≡ register_fault_of fault) × RefusesRegister g lent refused.1 fault)
    pub stands : IsClean → (commands : List Command) → StandsFor (state g lent) commands → length commands ≤ most_revision → IsFoundAs g commands result
    pub recovered : IsClean → (commands : List Command) → IsOpenedOn commands (state g lent) → length commands ≤ most_revision → IsFoundAs g commands result
    pub leaves : AsksOnly (state g lent) (state g (connection_in result)) (without_connection result)
    pub crash : IsClean → (commands : List Command) → StandsFor (state g lent) commands → Leaves (state g (connection_in result)) commands

  -- after the names were found in use, with the database as it was
  abbrev pub IsOpenedLater : (Held S → Type 0) → Type 0
  IsOpenedLater Tells = (is_standing lent.schema ≡ true) × (mid : Held S) × IsSettled g lent mid × Tells mid

  -- the register that exists there, or a new one if neither name was in use
  pub record OpenedOrCreated : Type 0 where
    pub made : IsClean → IfOk result (λ register. lent.schema ≡ no_schema → IsRegisterOf g register [])
    pub found : IsClean → IfOk result (λ register. (is_standing lent.schema ≡ false) ⊎ IsOpenedLater (λ mid. TellsRegister g mid (connection_of register) (Some (revision_of register))))
    pub missing : IsClean → IfErr result (λ refused. refused.0 ≡ NotARegister → IsOpenedLater (λ mid. TellsRegister g mid refused.1 None))
    pub cause : IfErr result (λ refused. refused.0 ≢ NotARegister → IsStoreFault refused.0)
    pub store : IsClean → IfErr result (λ refused. refused.0 ≢ NotARegister →
        ((e : Error) × (refused.0 ≡ register_fault_of (fault_of e)) × RefusesTables g e lent refused.1) ⊎ IsOpenedLater (λ mid. (fault : TableFault) × (refused.0 ≡ register_fault_of fault) × RefusesRegister g mid refused.1 fault))
    pub stands : IsClean → (commands : List Command) → StandsFor (state g lent) commands → length commands ≤ most_revision → IsFoundAs g commands result
    pub recovered : IsClean → (commands : List Command) → IsOpenedOn commands (state g lent) → length commands ≤ most_revision → IsFoundAs g commands result
    pub same : IsClean → IfErr result (λ refused. refused.0 ≡ NotARegister → IsAsBefore (state g lent) (state g refused.1))
    pub kept : IsClean → IfErr result (λ refused. IsTrue (state g refused.1).is_open → (state g lent).committed ≡ (state g lent).now → KeepsAll (state g lent) (state g refused.1))
    pub later : IsLater (state g lent) (state g (connection_in result))
    pub crash : IsClean → LeavesOrMakes (state g lent) (state g (connection_in result))
