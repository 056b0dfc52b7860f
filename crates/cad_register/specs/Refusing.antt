-- What the database refuses of a command, as the database itself reports.
use Rattle.std.specs.Prelude.{◌≡◌, ◌≢◌, ◌⊎◌, ◌≤◌, ℕ, ◌+◌, pos, nat_le, if◌then◌else◌, List, [], ◌∷◌, ◌++◌, Option, Some, None, Result, MatchResult}
use Rattle.sqlite_value.specs.declared.value.Value.TheVariants.{Int}
use Rattle.sqlite_trees.specs.declared.store.Store.{Ghosts}
use Rattle.sqlite.specs.declared.error.Error.{Error}
use Rattle.sqlite.specs.State.{FailsToQuery}
use Rattle.sqlite.specs.Held.{Held, state}
use Rattle.cad_tables.specs.Texts.{history_text, listing_text}
use Rattle.cad_tables.specs.Faults.{fault_of}
use Rattle.cad_tables.specs.Opening.{IsSettled}
use Rattle.cad_tables.specs.Refusals.{Statement, RefusesTransaction, all_statements_of}
use Rattle.cad_tables.specs.declared.changes.Change.{Change}
use Rattle.cad_tables.specs.declared.faults.TableFault.{TableFault}
use Rattle.cad_tables.specs.declared.faults.TableFault.TheVariants.{Memory, Store}
use Rattle.cad_versions.specs.declared.object_id.ObjectId.{ObjectId}
use Rattle.cad_versions.specs.declared.body.Body.{Body}
use Rattle.cad_versions.specs.declared.command.Command.{Command}
use Rattle.cad_versions.specs.declared.fault.RegisterFault.{RegisterFault}
use Rattle.cad_versions.specs.declared.fault.RegisterFault.TheVariants as fault
use Rattle.cad_versions.specs.Objects.{object_number}
use Rattle.cad_versions.specs.Command.{object_named, body_added}
use Rattle.cad_versions.specs.BodyParts.{unit_named, party_named}
use Rattle.cad_versions.specs.Refusals.{most_versions}
use Rattle.cad_register.specs.declared.writing.NewEntry.{NewEntry}
use Rattle.cad_register.specs.Changing.{IsChangeOf, line_written}
use Rattle.cad_register.specs.Stands.{StandsFor}

-- running out of memory is reported as such, and every other refusal of the database as its own (own profile)
abbrev pub register_fault_of : TableFault → RegisterFault
register_fault_of Memory = fault.Memory
register_fault_of (Store e) = fault.Store

-- SQLite, Result and Error Codes, SQLITE_NOMEM: the cause is not out of memory
abbrev pub IsNotForMemory : Error → Type 0
IsNotForMemory e = fault_of e ≢ Memory

-- ---- the questions that a command asks (own profile)

abbrev pub asking : List ℕ → ℕ → Statement
asking text n = record { text = text; params = Int (pos n) ∷ [] }

-- for the history of this object
abbrev pub IsForObject : ObjectId → Statement → Type 0
IsForObject object question = question ≡ asking history_text (object_number object)

-- for the history of what is named, if anything is
abbrev pub IsForNamed : Option ObjectId → Statement → Type 0
IsForNamed None question = ⊥
IsForNamed (Some object) question = IsForObject object question

-- for the history of the unit or the party that the body names
abbrev pub IsForBody : Body → Statement → Type 0
IsForBody body question = IsForNamed (unit_named body) question ⊎ IsForNamed (party_named body) question

-- for the lines of the revision
abbrev pub IsForLines : ℕ → Statement → Type 0
IsForLines revision question = question ≡ asking listing_text revision

-- for them, if at least `most_versions` commands were accepted
abbrev pub IsForRoom : ℕ → Statement → Type 0
IsForRoom revision question = (most_versions ≤ revision) × IsForLines revision question

-- what the body names, or whether there is room, if a version is added
abbrev pub IsForAddition : Option Body → ℕ → Statement → Type 0
IsForAddition None revision question = ⊥
IsForAddition (Some body) revision question = IsForBody body question ⊎ IsForRoom revision question

-- the object of the command, or what it adds
abbrev pub IsForCommand : Command → ℕ → Statement → Type 0
IsForCommand command revision question = IsForObject (object_named command) question ⊎ IsForAddition (body_added command) revision question

-- ---- the same in the order in which they are asked (own profile)

-- for the history of what is named, if anything is
abbrev pub history_questions : Option ObjectId → List Statement
history_questions None = []
history_questions (Some object) = asking history_text (object_number object) ∷ []

-- for the history of the unit, and then of the party
abbrev pub body_questions : Body → List Statement
body_questions body = history_questions (unit_named body) ++ history_questions (party_named body)

-- for the lines of the revision, if at least `most_versions` commands were accepted
abbrev pub room_questions : ℕ → List Statement
room_questions revision = if nat_le most_versions revision then asking listing_text revision ∷ [] else []

-- for what the body names, and then whether there is room
abbrev pub addition_questions : Option Body → ℕ → List Statement
addition_questions None revision = []
addition_questions (Some body) revision = body_questions body ++ room_questions revision

-- for the object of the command, and then for what it adds
abbrev pub command_questions : Command → ℕ → List Statement
command_questions command revision = history_questions (Some (object_named command)) ++ addition_questions (body_added command) revision

-- ---- what is refused (own profile)

module _ {S : Type 0} (g : Ghosts S) (old new : Held S) where
  -- with the database as it was, it refuses one of these questions, and not because it is out of memory
  pub record RefusesQuestion (IsAsked : Statement → Type 0) : Type 0 where
    pub mid : Held S
    pub settled : IsSettled g old mid
    pub question : Statement
    pub asked : IsAsked question
    pub cause : Error
    pub told : IsNotForMemory cause
    pub fails : FailsToQuery question.text question.params (state g mid) (state g new) cause

  -- it refuses a statement of what the command changes at this revision, or their commit, and not because it is out of memory
  abbrev pub RefusesChange : Command → ℕ → Type 0
  RefusesChange command revision =
      (change : Change NewEntry) × (number : ℕ) × (e : Error) × IsChangeOf command number revision change × IsNotForMemory e × RefusesTransaction g (all_statements_of line_written change revision) e old new

  -- these questions are answered with the database as it was, or one is refused
  abbrev pub Asks : {X : Type 0} → (Statement → Type 0) → Result X RegisterFault → Type 0
  Asks IsAsked result =
      (commands : List Command) → StandsFor (state g old) commands → MatchResult result (λ _. IsSettled g old new) (λ cause. cause ≡ fault.Store → RefusesQuestion IsAsked)

-- a question of the command at this revision is refused, or else the change that makes the next revision
abbrev pub RefusesToApply : {S : Type 0} → Ghosts S → Held S → Held S → Command → ℕ → Type 0
RefusesToApply g old new command revision =
    RefusesQuestion g old new (IsForCommand command revision) ⊎ ((mid : Held _) × IsSettled g old mid × RefusesChange g mid new command (revision + 1))
