-- The steps of a transaction, as what a connection shows before and after.
use Rattle.std.specs.Prelude.{◌≡◌, ℕ, true, false, IsTrue, List, [], ◌∷◌, ◌++◌, map}
use Rattle.sqlite_trees.specs.Tree.{Trees}
use Rattle.sqlite.specs.Effect.{Database, IsDatabase}
use Rattle.sqlite.specs.State.{State, Shows}
use Rattle.cad_tables.specs.VersionRow.{VersionRow}
use Rattle.cad_tables.specs.Tables.{no_schema, is_standing}
use Rattle.cad_tables.specs.Holding.{Holds}
use Rattle.cad_tables.specs.Changes.{closed_if, changed, NamesOne, Fits}
use Rattle.cad_tables.specs.declared.changes.Closing.{Closing}
use Rattle.cad_tables.specs.declared.changes.Change.{Change}

-- SQLite, Transaction: inside one, with the last commit as it was
abbrev pub IsInside : State → State → Type 0
IsInside old new = Shows old new new.now old.committed true

-- SQLite, Transaction: what is seen and what is committed stay
abbrev pub KeepsAll : State → State → Type 0
KeepsAll old new = (new.now ≡ old.now) × (new.committed ≡ old.committed)

-- own profile: the line is added at the end
pub record Adds (line : VersionRow) (old new : State) : Type 0 where
  pub holds : (n : ℕ) (lines : List VersionRow) → Holds n lines old.now → Holds n (lines ++ line ∷ []) new.now
  pub inside : IsInside old new

-- own profile: the revision is this, in a database whose catalog lists its tables and whose rows keep their constraints
pub record Counts (revision : ℕ) (old new : State) : Type 0 where
  pub holds : (n : ℕ) (lines : List VersionRow) → Holds n lines old.now → Holds revision lines new.now × IsDatabase new.now
  pub inside : IsInside old new

-- own profile: the open line of the object is closed
pub record Closes (c : Closing) (revision : ℕ) (old new : State) : Type 0 where
  pub holds : (n : ℕ) (lines : List VersionRow) → NamesOne c lines → Holds n lines old.now → Holds n (map (closed_if c revision) lines) new.now
  pub inside : IsInside old new

-- own profile: neither name was in use, and an empty database has the two tables, at revision 0 and with no lines
pub record MakesTables (old new : State) : Type 0 where
  pub free : is_standing old.now.schema ≡ false
  pub holds : old.now.schema ≡ no_schema → Holds 0 [] new.now × IsDatabase new.now
  pub inside : IsInside old new

module _ {L : Type 0} (line_of : L → VersionRow) (change : Change L) (revision : ℕ) (old : State) where
  -- own profile: the lines are changed, and the revision is as it was
  pub record Changes (new : State) : Type 0 where
    pub holds : (n : ℕ) (lines : List VersionRow) → Fits change lines → Holds n lines old.now → Holds n (changed line_of change revision lines) new.now
    pub inside : IsInside old new

  -- own profile: the lines are changed, and the revision is this, in a database whose catalog lists its tables and whose rows keep their constraints
  abbrev pub IsWrittenTo : Database → Type 0
  IsWrittenTo db = (n : ℕ) (lines : List VersionRow) → Fits change lines → Holds n lines old.now → Holds revision (changed line_of change revision lines) db × IsDatabase db

  -- own profile: the same inside the transaction
  pub record Commands (new : State) : Type 0 where
    pub written : IsWrittenTo new.now
    pub inside : IsInside old new

  -- own profile: the same, and it is the last commit
  pub record Commits (new : State) : Type 0 where
    pub written : IsWrittenTo new.now
    pub committed : new.committed ≡ new.now
    pub was_open : IsTrue old.is_open
    pub is_open : IsTrue new.is_open
    pub ended : new.in_transaction ≡ false

  -- SQLite, Atomic Commit: what the disk holds once the change is committed
  abbrev pub CommitsTo : Trees → Type 0
  CommitsTo trees = (db : Database) × IsWrittenTo db × (trees ≡ db.trees)

-- own profile: neither name was in use, and an empty database is the register of no commands, and it is the last commit
pub record Creates (old new : State) : Type 0 where
  pub free : is_standing old.now.schema ≡ false
  pub holds : old.now.schema ≡ no_schema → Holds 0 [] new.now × IsDatabase new.now
  pub committed : new.committed ≡ new.now
  pub was_open : IsTrue old.is_open
  pub is_open : IsTrue new.is_open
  pub ended : new.in_transaction ≡ false

-- SQLite, Atomic Commit: what the disk holds once the tables are committed
abbrev pub CreatesTo : State → Trees → Type 0
CreatesTo old trees = (db : Database) × (old.now.schema ≡ no_schema → Holds 0 [] db × IsDatabase db) × (trees ≡ db.trees)
