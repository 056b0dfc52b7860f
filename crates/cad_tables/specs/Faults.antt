-- How a refusal of the database is reported.
use Rattle.std.specs.Prelude.{Bool, true, false}
use Rattle.sqlite.specs.declared.error.Error.{Error}
use Rattle.sqlite.specs.declared.error.Error.TheVariants as sqlite
use Rattle.sqlite.specs.declared.error.ErrorCode.{ErrorCode}
use Rattle.sqlite.specs.declared.error.ErrorCode.TheVariants.{OutOfMemory}
use Rattle.sqlite_resolve.specs.declared.error.CompileError.{CompileError}
use Rattle.sqlite_resolve.specs.declared.error.CompileError.TheVariants as compile
use Rattle.cad_tables.specs.declared.faults.TableFault.{TableFault}
use Rattle.cad_tables.specs.declared.faults.TableFault.TheVariants.{Memory, Store}

abbrev pub fault_of_code : ErrorCode → TableFault
fault_of_code OutOfMemory = Memory
fault_of_code code = Store (sqlite.SqliteFailure code)

abbrev pub fault_of_compile : CompileError → TableFault
fault_of_compile compile.OutOfMemory = Memory
fault_of_compile e = Store (sqlite.SqlInputError e)

-- SQLite, Result and Error Codes, SQLITE_NOMEM: out of memory, and every other cause as it is
abbrev pub fault_of : Error → TableFault
fault_of (sqlite.SqliteFailure code) = fault_of_code code
fault_of (sqlite.SqlInputError e) = fault_of_compile e
fault_of e = Store e

-- SQLite, CREATE TABLE: there is already a table, an index or a view of this name
abbrev pub is_name_taken : Error → Bool
is_name_taken (sqlite.SqlInputError compile.Exists) = true
is_name_taken e = false
