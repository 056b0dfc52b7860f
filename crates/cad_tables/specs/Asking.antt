-- What a question to the database leaves as it was (SQLite, SELECT).
use Rattle.std.specs.Prelude.{◌≡◌, Bool, true, false, Result, Ok, Err, IsTrue, OnOk}
use Rattle.sqlite_ast.specs.declared.Statement.{Statement}
use Rattle.sqlite_ast.specs.declared.Statement.TheVariants as written
use Rattle.sqlite_syntax.specs.declared.statement.Parsed.{Parsed}
use Rattle.sqlite_resolve.specs.Lowering.{Checked}
use Rattle.sqlite.specs.State.{State, HasCleanDisk, IsUnchanged, Survives}
use Rattle.cad_tables.specs.Steps.{KeepsAll}

abbrev pub asks : Statement → Bool
asks (written.Select s) = true
asks _ = false

-- the grammar reads the text as a query
abbrev pub IsQuery : Checked Parsed → Type 0
IsQuery (Ok p) = asks p.statement ≡ true
IsQuery (Err e) = ⊥

-- answered, it leaves all as it was; refused, it leaves what is seen and committed as it was, while the connection is open and no
-- transaction had changed it; and a crash after it leaves nothing that it could not leave before
pub record OnlyReads {X F : Type 0} (old new : State) (result : Result X F) : Type 0 where
  pub same : HasCleanDisk new → OnOk result (IsUnchanged old new)
  pub kept : HasCleanDisk new → IsTrue new.is_open → old.committed ≡ old.now → KeepsAll old new
  pub was_open : HasCleanDisk new → IsTrue new.is_open → IsTrue old.is_open
  pub clean : HasCleanDisk new → HasCleanDisk old
  pub mode : old.in_transaction ≡ false → new.in_transaction ≡ false
  pub survives : Survives old new (λ _. ⊥)
