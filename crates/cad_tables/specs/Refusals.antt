-- Which refusal of the database a call reports.
use Rattle.std.specs.Prelude.{◌≡◌, ◌⊎◌, ◌≤◌, ℕ, pos, List, [], ◌∷◌, ◌++◌, true, Ok, Err, IsTrue}
use Rattle.sqlite_value.specs.declared.value.Value.TheVariants.{Int}
use Rattle.sqlite_value.specs.Order.{Row}
use Rattle.sqlite_trees.specs.declared.store.Store.{Ghosts}
use Rattle.sqlite.specs.declared.error.Error.{Error}
use Rattle.sqlite.specs.declared.error.Error.TheVariants.{SqliteFailure}
use Rattle.sqlite.specs.declared.error.ErrorCode.TheVariants.{TransactionState}
use Rattle.sqlite.specs.State.{ExecutesInside}
use Rattle.sqlite.specs.Steps.{FailsToCommit}
use Rattle.sqlite.specs.Held.{Held, state}
use Rattle.cad_tables.specs.Texts.{state_text, version_text, begin_text, enter_text, close_text, count_text}
use Rattle.cad_tables.specs.VersionRow.{VersionRow, cells_of}
use Rattle.cad_tables.specs.declared.changes.Closing.{Closing}
use Rattle.cad_tables.specs.declared.changes.Change.{Change}
use Rattle.cad_tables.specs.declared.changes.Change.TheVariants.{Enter, Amend, Retire}

-- SQLite, C Interface, Binding Values: a text, and the values of its parameters
pub record Statement : Type 0 where
  pub text : List ℕ
  pub params : Row

abbrev pub entering : VersionRow → Statement
entering line = record { text = enter_text; params = cells_of line }

abbrev pub closing : Closing → ℕ → Statement
closing c revision = record { text = close_text; params = Int (pos c.object) ∷ Int c.last ∷ Int (pos revision) ∷ [] }

abbrev pub counting : ℕ → Statement
counting revision = record { text = count_text; params = Int (pos revision) ∷ [] }

-- own profile: the statements of a change
abbrev pub statements_of : {L : Type 0} → (L → VersionRow) → Change L → ℕ → List Statement
statements_of line_of (Enter line) revision = entering (line_of line) ∷ []
statements_of line_of (Amend c line) revision = closing c revision ∷ entering (line_of line) ∷ []
statements_of line_of (Retire c) revision = closing c revision ∷ []

-- own profile: those, and then the one that sets the revision: at most three
abbrev pub all_statements_of : {L : Type 0} → (L → VersionRow) → Change L → ℕ → List Statement
all_statements_of line_of change revision = statements_of line_of change revision ++ counting revision ∷ []

abbrev pub making_state : Statement
making_state = record { text = state_text; params = [] }

abbrev pub making_version : Statement
making_version = record { text = version_text; params = [] }

abbrev pub beginning : Statement
beginning = record { text = begin_text; params = [] }

-- own profile: the statements that make the tables
abbrev pub creating : List Statement
creating = making_state ∷ making_version ∷ beginning ∷ []

module _ {S : Type 0} (g : Ghosts S) where
  -- SQLite, C Interface, Evaluating a statement: it is run inside the transaction
  pub record Ran (statement : Statement) (old new : Held S) : Type 0 where
    pub count : ℕ
    pub runs : ExecutesInside 0 statement.text statement.params (state g old) (state g new) (Ok count)
    pub limit : new.step_limit ≡ old.step_limit
    pub faults : (state g old).faults ≤ (state g new).faults

  -- own profile: the statements are run one after the other
  abbrev pub RanAll : List Statement → Held S → Held S → Type 0
  RanAll [] old new = old ≡ new
  RanAll (statement ∷ more) old new = (mid : Held S) × Ran statement old mid × RanAll more mid new

  -- own profile: the database refuses the statement for this cause, as the database itself reports
  pub record IsRefused (statement : Statement) (e : Error) (old new : Held S) : Type 0 where
    pub after : Held S
    pub refuses : ExecutesInside 0 statement.text statement.params (state g old) (state g after) (Err e)
    pub ended : (state g after).faults ≤ (state g new).faults

  -- own profile: the statements are run one after the other up to one that is refused
  abbrev pub OneIsRefused : List Statement → Error → Held S → Held S → Type 0
  OneIsRefused [] e old new = ⊥
  OneIsRefused (statement ∷ more) e old new = IsRefused statement e old new ⊎ ((mid : Held S) × Ran statement old mid × OneIsRefused more e mid new)

  abbrev pub begun : Held S → Held S
  begun old = record old { in_transaction = true }

  -- own profile: a transaction was already open, or one of the statements is refused, or the commit after them all
  abbrev pub RefusesTransaction : List Statement → Error → Held S → Held S → Type 0
  RefusesTransaction statements e old new =
      (IsTrue old.in_transaction × (e ≡ SqliteFailure TransactionState))
      ⊎ (OneIsRefused statements e (begun old) new ⊎ ((last : Held S) × RanAll statements (begun old) last × FailsToCommit (state g last) (state g new) e))
