-- The features of all collections at every revision, as rows with periods (SQL:2011, 4.15.7: system-versioned tables; revisions: own profile).
use Rattle.std.specs.Prelude.{◌≡◌, List, [], map}
use Rattle.cad_versions.specs.declared.command.Command.{Command}
use Rattle.cad_schema.specs.declared.collection.Collection.{Collection}
use Rattle.cad_schema.specs.Collections.{collections}
use Rattle.cad_history.specs.Registers.{AreRowsOf}
use Rattle.cad_history.specs.Rows.{Rows, newest_alone}
use Rattle.cad_history.specs.Tables.{entry_of}

-- the rows of each collection, in the order of the collections
abbrev pub RegisterRows : Type 0
RegisterRows = List Rows

abbrev pub rows_for : RegisterRows → Collection → Rows
rows_for all collection = entry_of (newest_alone collection []) all collection

abbrev pub AreInOrder : RegisterRows → Type 0
AreInOrder all = map (λ (rows : Rows). rows.collection) all ≡ collections

-- each of them is of its collection
abbrev pub AreInPlace : RegisterRows → Type 0
AreInPlace all = (collection : Collection) → (rows_for all collection).collection ≡ collection

-- at each revision they show the features of each collection that the commands up to it made
abbrev pub AreAllRowsOf : List Command → RegisterRows → Type 0
AreAllRowsOf commands all = (collection : Collection) → AreRowsOf commands (rows_for all collection)
