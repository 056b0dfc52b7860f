-- A step of a transaction, and a call that makes its change in one (SQLite, Transaction and Atomic Commit).
use Rattle.std.specs.Prelude.{◌≡◌, false, List, Result, IsTrue, OnOk, OnErr, IfErr}
use Rattle.sqlite_trees.specs.Tree.{Trees}
use Rattle.sqlite_trees.specs.declared.store.Store.{Ghosts}
use Rattle.sqlite.specs.declared.error.Error.{Error}
use Rattle.sqlite.specs.State.{State, HasCleanDisk, KeepsCommit, Survives}
use Rattle.sqlite.specs.Held.{Held, state}
use Rattle.cad_tables.specs.Faults.{fault_of}
use Rattle.cad_tables.specs.declared.faults.TableFault.{TableFault}
use Rattle.cad_tables.specs.Refusals.{Statement, RanAll, OneIsRefused}
use Rattle.cad_tables.specs.Steps.{KeepsAll}

-- own profile: inside a transaction, with a clean disk: if done, it does what it says, and its statements ran one after the other; if
-- refused, one of them was refused; the last commit stays, and a crash leaves nothing more than before
pub record TakesStep {S : Type 0} (g : Ghosts S) (Does : State → State → Type 0) (statements : List Statement) (old new : Held S) (result : Result (Unit {0}) Error) : Type 0 where
  pub does : HasCleanDisk (state g new) → IsTrue (state g old).in_transaction → OnOk result (Does (state g old) (state g new))
  pub ran : HasCleanDisk (state g new) → IsTrue (state g old).in_transaction → OnOk result (RanAll g statements old new)
  pub refused : HasCleanDisk (state g new) → IsTrue (state g old).in_transaction → IfErr result (λ e. OneIsRefused g statements e old new)
  pub kept : HasCleanDisk (state g new) → IsTrue (state g old).in_transaction → KeepsCommit (state g old) (state g new)
  pub survives : Survives (state g old) (state g new) (λ _. ⊥)

-- own profile: the change is made completely or not at all. If it is refused, what is seen and committed stays while the connection is
-- open, and the database refused it for this cause; if no transaction was open, none is left open; a crash leaves nothing more than before,
-- except for what is committed
pub record CommitsOrKeeps {S : Type 0} (g : Ghosts S) (Refuses : Error → Held S → Held S → Type 0) (CommitsTo : State → Trees → Type 0) (old new : Held S) {X : Type 0} (result : Result X TableFault) : Type 0 where
  pub neither : HasCleanDisk (state g new) → IsTrue (state g new).is_open → OnErr result (KeepsAll (state g old) (state g new))
  pub refused : HasCleanDisk (state g new) → IfErr result (λ fault. (e : Error) × (fault ≡ fault_of e) × Refuses e old new)
  pub mode : (state g old).in_transaction ≡ false → (state g new).in_transaction ≡ false
  pub crash : Survives (state g old) (state g new) (CommitsTo (state g old))
