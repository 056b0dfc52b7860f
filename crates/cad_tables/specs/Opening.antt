-- Whether a database is a register's, and at which revision.
use Rattle.std.specs.Prelude.{◌≡◌, ◌⊎◌, ◌==◌, ◌^◌, ◌≤◌, ℕ, pos, nat_le, nat_lt, Bool, true, false, if◌then◌else◌, [], Ok, Err, Option, Some, None, Result, IsTrue}
use Rattle.std.specs.Option.{option_and_then}
use Rattle.sqlite_value.specs.declared.value.Value.{Value}
use Rattle.sqlite_value.specs.declared.value.Value.TheVariants.{Int}
use Rattle.sqlite_value.specs.Order.{Row, column}
use Rattle.sqlite_trees.specs.declared.store.Store.{Ghosts}
use Rattle.sqlite_schema.specs.declared.schema.Schema.{Schema}
use Rattle.sqlite_resolve.specs.declared.error.CompileError.{CompileError}
use Rattle.sqlite_resolve.specs.declared.error.CompileError.TheVariants.{NoSuchTable, NoSuchColumn, Exists}
use Rattle.sqlite_resolve.specs.declared.compiled.Compiled.{Compiled}
use Rattle.sqlite.specs.declared.error.Error.{Error}
use Rattle.sqlite.specs.declared.error.Error.TheVariants.{SqliteFailure, SqlInputError, QueryReturnedNoRows}
use Rattle.sqlite.specs.declared.error.ErrorCode.TheVariants.{TransactionState}
use Rattle.sqlite.specs.State.{State, QueriesRow, IsUnchanged, IsNotRun}
use Rattle.sqlite.specs.Listing.{understood}
use Rattle.sqlite.specs.Held.{Held, state}
use Rattle.cad_tables.specs.Faults.{fault_of, is_name_taken}
use Rattle.cad_tables.specs.Refusals.{RefusesTransaction, creating}
use Rattle.cad_tables.specs.Tables.{is_standing}
use Rattle.cad_tables.specs.declared.faults.TableFault.{TableFault}
use Rattle.cad_tables.specs.declared.faults.TableFault.TheVariants.{Memory}
use Rattle.cad_tables.specs.Texts.{revision_text, listing_text, state_text, version_text}

-- own profile: the greatest revision that is ever stored
abbrev pub most_revision : ℕ
most_revision = 4294967294

abbrev pub if_below : ℕ → ℕ → Option ℕ
if_below bound n = if nat_lt n bound then Some n else None

-- a whole number from 0 to 2^32 - 1
abbrev pub count_in : Value → Option ℕ
count_in (Int (pos n)) = if_below (2 ^ 32) n
count_in _ = None

abbrev pub if_stored : ℕ → Option ℕ
if_stored n = if nat_le n most_revision then Some n else None

abbrev pub is_format : Option ℕ → Bool
is_format (Some n) = n == 1
is_format None = false

-- own profile: the revision in a row of format and revision, if the format is 1
abbrev pub revision_in : Row → Option ℕ
revision_in row = if is_format (count_in (column row 0)) then option_and_then if_stored (count_in (column row 1)) else None

-- SQLite, Result and Error Codes, SQLITE_ERROR: a table or a column that the text names is missing, or the row is
abbrev pub is_lacking : Error → Bool
is_lacking (SqlInputError NoSuchTable) = true
is_lacking (SqlInputError NoSuchColumn) = true
is_lacking QueryReturnedNoRows = true
is_lacking _ = false

-- own profile: the row of `state` has the revision, or the database says that the table, a column or the row is missing
abbrev pub TellsRevision : State → State → Option ℕ → Type 0
TellsRevision old new found =
    ((row : Row) × QueriesRow revision_text [] old new (Ok row) × (found ≡ revision_in row))
    ⊎ ((e : Error) × QueriesRow revision_text [] old new (Err e) × (is_lacking e ≡ true) × (found ≡ None))

-- own profile: `version` or one of its columns is missing, by the text that names them all
abbrev pub LacksColumns : Schema → Type 0
LacksColumns schema = (fault : CompileError) × (understood schema listing_text ≡ Err fault) × (is_lacking (SqlInputError fault) ≡ true)

-- own profile: the database is as before, at a later moment of the call
pub record IsSettled {S : Type 0} (g : Ghosts S) (old mid : Held S) : Type 0 where
  pub same : IsUnchanged (state g old) (state g mid)
  pub limit : mid.step_limit ≡ old.step_limit
  pub faults : (state g old).faults ≤ (state g mid).faults

-- own profile: `version` lacks a column and no revision is found, or it has them all and `state` has the revision
abbrev pub TellsRegister : {S : Type 0} → Ghosts S → Held S → Held S → Option ℕ → Type 0
TellsRegister g old new found =
    (LacksColumns old.schema × (found ≡ None)) ⊎ ((mid : Held _) × ¬ LacksColumns old.schema × IsSettled g old mid × TellsRevision (state g mid) (state g new) found)

-- own profile: no memory for the content of the row, or the database's answer to the question for it
abbrev pub RefusesToTell : State → State → TableFault → Type 0
RefusesToTell old new fault =
    ((row : Row) × QueriesRow revision_text [] old new (Ok row) × (fault ≡ Memory))
    ⊎ ((e : Error) × (fault ≡ fault_of e) × (is_lacking e ≡ false) × QueriesRow revision_text [] old new (Err e))

-- own profile: the database's answer to the text that names the columns of `version`
abbrev pub RefusesColumns : State → State → TableFault → Type 0
RefusesColumns old new fault = (e : Error) × (fault ≡ fault_of e) × (is_lacking e ≡ false) × ((params : Row) → IsNotRun old new listing_text params e)

abbrev pub RefusesRegister : {S : Type 0} → Ghosts S → Held S → Held S → TableFault → Type 0
RefusesRegister g old new fault =
    RefusesColumns (state g old) (state g new) fault ⊎ ((mid : Held _) × IsSettled g old mid × RefusesToTell (state g mid) (state g new) fault)

-- ---- whether the tables can be made

-- SQLite, CREATE TABLE: a text that makes a table compiles, or its name is that of a table, an index or a view
abbrev pub Finds : Result Compiled CompileError → Bool → Type 0
Finds (Ok c) used = used ≡ false
Finds (Err fault) used = (fault ≡ Exists) × (used ≡ true)

-- own profile: the database's answer to one of the texts that make the tables, other than that its name is in use
abbrev pub RefusesNames : {S : Type 0} → Ghosts S → Held S → Held S → Error → Type 0
RefusesNames g old new e =
    (is_name_taken e ≡ false)
    × (IsNotRun (state g old) (state g new) state_text [] e ⊎ ((mid : Held _) × IsSettled g old mid × IsNotRun (state g mid) (state g new) version_text [] e))

-- own profile: a transaction was already open, or the database refuses a text that makes the tables, or, if neither name is in use, a
-- statement that makes them or the commit
abbrev pub RefusesTables : {S : Type 0} → Ghosts S → Error → Held S → Held S → Type 0
RefusesTables g e old new =
    (IsTrue old.in_transaction × (e ≡ SqliteFailure TransactionState))
    ⊎ (RefusesNames g old new e ⊎ ((mid : Held _) × (is_standing old.schema ≡ false) × IsSettled g old mid × RefusesTransaction g creating e mid new))
