-- What a call keeps of a register (SQLite, Transaction and Atomic Commit; own profile).
use Rattle.std.specs.Prelude.{List, Result, IfErr, OnErr, IsTrue}
use Rattle.sqlite_trees.specs.declared.store.Store.{Ghosts}
use Rattle.sqlite.specs.State.{State, HasCleanDisk}
use Rattle.cad_versions.specs.declared.command.Command.{Command}
use Rattle.cad_versions.specs.declared.fault.RegisterFault.{RegisterFault}
use Rattle.cad_versions.specs.Keeping.{IsOfTheRegister}
use Rattle.cad_register.specs.declared.register.Register.{Register}
use Rattle.cad_register.specs.Registers.{state_of, IsRegisterOf, IsStill}

-- refused for another cause than the database or memory, it shows the same as before; refused while the connection is open, it is the
-- register of the same commands; at every exit an open after a crash may find this of them
pub record Keeps {S : Type 0} (g : Ghosts S) (MayFind : State → List Command → Type 0) (old new : Register S) {X : Type 0} (result : Result X RegisterFault) : Type 0 where
  pub same : HasCleanDisk (state_of g new) → IfErr result (λ fault. IsOfTheRegister fault → IsStill g old new)
  pub unchanged : HasCleanDisk (state_of g new) → IsTrue (state_of g new).is_open → OnErr result ((commands : List Command) → IsRegisterOf g old commands → IsRegisterOf g new commands)
  pub crash : HasCleanDisk (state_of g new) → (commands : List Command) → IsRegisterOf g old commands → MayFind (state_of g new) commands
