-- What a call that only asks the database leaves as it was (SQLite, SELECT and Transaction).
use Rattle.std.specs.Prelude.{◌≡◌, ◌⊎◌, ◌≤◌, Result, IsTrue}
use Rattle.sqlite_disk.specs.Disk.{MoreFaults}
use Rattle.sqlite.specs.State.{State, HasCleanDisk}
use Rattle.cad_tables.specs.Steps.{KeepsAll}
use Rattle.cad_versions.specs.declared.fault.RegisterFault.{RegisterFault}
use Rattle.cad_versions.specs.Keeping.{IsAnswered}
use Rattle.cad_register.specs.Surviving.{LeavesNoMore}

-- a later moment of the same connection: its disk is clean only if it was clean before, its limit of steps is the same, no fault of the
-- disk is forgotten, and it is closed only by one more of them
pub record IsLater (old new : State) : Type 0 where
  pub clean : HasCleanDisk new → HasCleanDisk old
  pub limit : new.step_limit ≡ old.step_limit
  pub faults : old.faults ≤ new.faults
  pub closes : HasCleanDisk new → IsTrue old.is_open → IsTrue new.is_open ⊎ MoreFaults old.faults new.faults

-- the connection shows the same as before
pub record IsAsBefore (old new : State) : Type 0 where
  pub now : new.now ≡ old.now
  pub committed : new.committed ≡ old.committed
  pub liveness : new.is_open ≡ old.is_open
  pub mode : new.in_transaction ≡ old.in_transaction

-- answered, or refused for the register's own cause, all is as it was; refused for another cause, what is seen and committed is as it was,
-- while the connection is open and no transaction had changed it; a crash leaves nothing that it could not leave before
pub record AsksOnly {X : Type 0} (old new : State) (result : Result X RegisterFault) : Type 0 where
  pub same : HasCleanDisk new → IsAnswered result → IsAsBefore old new
  pub kept : HasCleanDisk new → IsTrue new.is_open → old.committed ≡ old.now → KeepsAll old new
  pub later : IsLater old new
  pub left : HasCleanDisk new → LeavesNoMore old new
