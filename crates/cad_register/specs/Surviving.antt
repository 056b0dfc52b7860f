-- What an open after a crash may find of a register (SQLite, Atomic Commit; own profile).
use Rattle.std.specs.Prelude.{◌≡◌, ◌⊎◌, ℕ, ◌+◌, ◌<◌, List, [], ◌∷◌, ◌++◌, length, None}
use Rattle.sqlite_trees.specs.Tree.{Trees}
use Rattle.sqlite.specs.Effect.{Database, IsDatabase}
use Rattle.sqlite.specs.State.{State, Opens, IsLive}
use Rattle.cad_tables.specs.Tables.{no_schema, register_schema}
use Rattle.cad_tables.specs.Opening.{most_revision}
use Rattle.cad_versions.specs.declared.command.Command.{Command}
use Rattle.cad_versions.specs.Versions.{versions}
use Rattle.cad_versions.specs.Refusals.{refusal, AreAccepted}
use Rattle.cad_versions.specs.Entries.{entries_of}
use Rattle.cad_register.specs.StoredVersions.{HoldsEntries}
use Rattle.cad_register.specs.Stands.{StandsFor, IsNumbered}

abbrev pub database_of : Trees → Database
database_of trees = record { schema = register_schema; trees = trees }

-- the catalog on the disk lists the register's tables and the rows keep their constraints, and the trees hold rows that represent what the
-- commands made; these were accepted one after the other
pub record IsDiskOf (commands : List Command) (trees : Trees) : Type 0 where
  pub accepted : AreAccepted [] commands
  pub holds : HoldsEntries (length commands) (entries_of commands) (database_of trees)
  pub sound : IsDatabase (database_of trees)

-- the connection is as an open gives it (SQLite, Opening A New Database Connection), over such a disk
pub record IsOpenedOn (commands : List Command) (s : State) : Type 0 where
  pub opens : Opens s
  pub live : IsLive s
  pub disk : IsDiskOf commands s.committed.trees

-- a crash leaves nothing that it could not leave before
abbrev pub LeavesNoMore : State → State → Type 0
LeavesNoMore old new = (trees : Trees) → new.may_leave trees → old.may_leave trees

-- a crash leaves the register of the commands
abbrev pub Leaves : State → List Command → Type 0
Leaves s commands = (trees : Trees) → s.may_leave trees → IsDiskOf commands trees

-- a crash leaves the register of the commands, or of them and the new one, if that is accepted and its revision may be stored
abbrev pub LeavesEither : Command → State → List Command → Type 0
LeavesEither command s commands =
    (trees : Trees) → s.may_leave trees → IsDiskOf commands trees ⊎ ((refusal (versions commands) command ≡ None) × (length commands < most_revision) × IsDiskOf (commands ++ command ∷ []) trees)

-- a crash leaves what it left before, or the register of no commands, if the database was empty
abbrev pub LeavesOrMakes : State → State → Type 0
LeavesOrMakes old new = (trees : Trees) → new.may_leave trees → old.may_leave trees ⊎ (old.now.schema ≡ no_schema → IsDiskOf [] trees)

-- a change leaves one of these two if its command is accepted, its number is the next, and its revision counts it and may be stored
abbrev pub EnactsOrNot : State → State → Command → ℕ → ℕ → Type 0
EnactsOrNot old new command number revision =
    (commands : List Command) → StandsFor old commands → Leaves old commands → refusal (versions commands) command ≡ None → IsNumbered commands command number → revision ≡ length commands + 1 → length commands < most_revision → LeavesEither command new commands
