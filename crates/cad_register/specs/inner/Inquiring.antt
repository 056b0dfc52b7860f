-- What a question to the tables does (SQLite, SELECT and Transaction; own profile).
use Rattle.std.specs.Prelude.{◌≢◌, List, Result, IfErr, IsTrue}
use Rattle.sqlite_trees.specs.declared.store.Store.{Ghosts}
use Rattle.sqlite.specs.State.{HasCleanDisk}
use Rattle.sqlite.specs.Held.{Held, state}
use Rattle.cad_tables.specs.Opening.{IsSettled}
use Rattle.cad_tables.specs.Refusals.{Statement}
use Rattle.cad_versions.specs.declared.command.Command.{Command}
use Rattle.cad_versions.specs.declared.fault.RegisterFault.{RegisterFault}
use Rattle.cad_versions.specs.declared.fault.RegisterFault.TheVariants.{UnknownRevision}
use Rattle.cad_versions.specs.Keeping.{IsAnswered}
use Rattle.cad_register.specs.Leaving.{AsksOnly}
use Rattle.cad_register.specs.Refusing.{Asks}
use Rattle.cad_register.specs.Stands.{Tells}

-- the tables are asked these questions and no others; if answered, `Told` holds of the commands that the tables hold, and if refused,
-- `Refused` does; what the database refuses is one of the questions; all else is as it was
pub record Inquires {S : Type 0} (g : Ghosts S) (old new : Held S) (IsAsked : Statement → Type 0) {X : Type 0} (Told : List Command → X → Type 0) (Refused : List Command → RegisterFault → Type 0) (result : Result X RegisterFault) : Type 0 where
  pub told : HasCleanDisk (state g new) → Tells (state g old) (state g new) result Told Refused
  pub asked : HasCleanDisk (state g new) → Asks g old new IsAsked result
  pub leaves : AsksOnly (state g old) (state g new) result
  pub settled : HasCleanDisk (state g new) → IsTrue (state g old).is_open → IsAnswered result → IsSettled g old new
  pub known : IfErr result (λ cause. cause ≢ UnknownRevision)
