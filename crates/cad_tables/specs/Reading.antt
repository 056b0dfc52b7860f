-- Rows that are read one at a time (SQLite, C Interface, Evaluating a statement).
use Rattle.std.specs.Prelude.{◌≡◌, ◌⊎◌, ℕ, pos, List, [], ◌∷◌, map}
use Rattle.std.specs.List.{AllZip}
use Rattle.std.specs.List.Sorted.{IsPermutation}
use Rattle.sqlite_value.specs.declared.value.Value.TheVariants.{Int}
use Rattle.sqlite_value.specs.Order.{Row}
use Rattle.sqlite.specs.State.{State, HasCleanDisk, IsUnchanged, Shown, FailsToQuery}
use Rattle.sqlite.specs.Given.{HasGiven}
use Rattle.sqlite.specs.Held.{Held, state}
use Rattle.sqlite.specs.declared.error.Error.{Error}
use Rattle.sqlite_resolve.specs.Compile.{first}
use Rattle.sqlite_trees.specs.declared.store.Store.{Ghosts}
use Rattle.cad_tables.specs.Asking.{IsQuery}
use Rattle.cad_tables.specs.Faults.{fault_of}
use Rattle.cad_tables.specs.Holding.{Holds}
use Rattle.cad_tables.specs.Listing.{lines_at, lines_between}
use Rattle.cad_tables.specs.Texts.{listing_text, range_text}
use Rattle.cad_tables.specs.VersionRow.{VersionRow, cells_of}
use Rattle.cad_tables.specs.declared.faults.TableFault.{TableFault}
use Rattle.cad_tables.specs.declared.faults.TableFault.TheVariants.{Memory}

-- each of these was read of the row in its place
abbrev pub AreRead : {X : Type 0} → (Row → X → Type 0) → (List Row → Type 0) → List X → Type 0
AreRead Fits Are found = (rows : List Row) × Are rows × AllZip Fits rows found

-- the predicate holds of the query that the connection is at the start of
abbrev OfQuery : {S : Type 0} → Ghosts S → Held S → (List ℕ → Row → Type 0) → Type 0
OfQuery g start Comes = (sql : List ℕ) (params : Row) → IsQuery (first sql) → HasGiven g sql params start [] → Comes sql params

-- a query that was at its start has given these rows, as the database itself reports
abbrev pub AreGiven : {S : Type 0} → Ghosts S → Held S → Held S → List Row → Type 0
AreGiven g start new rows = HasCleanDisk (state g new) → OfQuery g start (λ sql params. Shown sql params (state g start) (state g new) rows)

-- the database shows these rows for the question, as the database itself reports
abbrev pub AreShown : List ℕ → Row → State → State → List Row → Type 0
AreShown sql params old new rows = HasCleanDisk new → Shown sql params old new rows

-- SQLite, SELECT, section 4: without ORDER BY the rows come in any order
abbrev pub AreLines : State → ℕ → List Row → Type 0
AreLines old revision rows = (n : ℕ) (lines : List VersionRow) → Holds n lines old.now → IsPermutation (map cells_of (lines_at revision lines)) rows

-- the rows that the database shows for a revision, as the database itself reports, which are the lines that were entered up to it
abbrev pub AreListed : State → State → ℕ → List Row → Type 0
AreListed old new revision rows = HasCleanDisk new → Shown listing_text (Int (pos revision) ∷ []) old new rows × AreLines old revision rows

-- SQLite, SELECT, section 4: ORDER BY rowid gives the lines between two places in the order in which they were entered
abbrev pub AreLinesBetween : State → ℕ → ℕ → List Row → Type 0
AreLinesBetween old behind up_to rows = (n : ℕ) (lines : List VersionRow) → Holds n lines old.now → rows ≡ map cells_of (lines_between behind up_to lines)

-- the rows that the database shows for the places behind one, up to another, by its own account, which are the lines at these places
abbrev pub AreListedBetween : State → State → ℕ → ℕ → List Row → Type 0
AreListedBetween old new behind up_to rows =
    HasCleanDisk new → Shown range_text (Int (pos behind) ∷ Int (pos up_to) ∷ []) old new rows × AreLinesBetween old behind up_to rows

-- own profile: there was no memory for the content of the rows, and all is as it was, or this is the database's answer to the question for
-- them
abbrev pub RefusesRows : List ℕ → Row → State → State → TableFault → Type 0
RefusesRows sql params old new fault =
    ((fault ≡ Memory) × IsUnchanged old new) ⊎ ((e : Error) × (fault ≡ fault_of e) × FailsToQuery sql params old new e)

-- the same for a query that was at its start
abbrev pub RefusesRest : {S : Type 0} → Ghosts S → Held S → Held S → TableFault → Type 0
RefusesRest g start new fault = OfQuery g start (λ sql params. RefusesRows sql params (state g start) (state g new) fault)
