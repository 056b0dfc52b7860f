-- One question after another.
use Rattle.std.proofs.Common.{◌≡◌, ◌≢◌, ◌∙◌, ℕ, pos, List, [], ◌∷◌, refl, inl, inr, IsTrue}
use Rattle.sqlite_value.specs.declared.value.Value.TheVariants.{Int}
use Rattle.sqlite_value.specs.Order.{Row}
use Rattle.sqlite.specs.declared.error.Error.{Error}
use Rattle.sqlite.specs.State.{State, FailsToQuery}
use Rattle.cad_tables.specs.Reading.{RefusesRows}
use Rattle.cad_tables.specs.Texts.{listing_text}
use Rattle.sqlite_trees.specs.declared.store.Store.{Ghosts}
use Rattle.sqlite.specs.Held.{Held, state}
use Rattle.cad_tables.specs.Opening.{IsSettled}
use Rattle.cad_versions.specs.declared.fault.RegisterFault.TheVariants as fault
use Rattle.cad_tables.specs.Refusals.{Statement}
use Rattle.cad_tables.specs.declared.faults.TableFault.{TableFault}
use Rattle.cad_tables.specs.declared.faults.TableFault.TheVariants.{Memory, Store}
use Rattle.cad_register.specs.Refusing.{RefusesQuestion, IsForLines, IsNotForMemory, asking, register_fault_of}
use Rattle.cad_tables.specs.lemmas.SettledLemmas.{settled_here, settled_then}

module _ {S : Type 0} (g : Ghosts S) where
  pub refuses_then : (old mid new : Held S) (P : Statement → Type 0) → IsSettled g old mid → RefusesQuestion g mid new P → RefusesQuestion g old new P
  refuses_then old mid new P p q = record {
    mid = q.mid;
    settled = settled_then g old mid q.mid p q.settled;
    question = q.question;
    asked = q.asked;
    cause = q.cause;
    told = q.told;
    fails = q.fails;
  }

  -- one of some questions is one of more
  pub refuses_more : (old new : Held S) (P Q : Statement → Type 0) → ((question : Statement) → P question → Q question) → RefusesQuestion g old new P → RefusesQuestion g old new Q
  refuses_more old new P Q more q = record {
    mid = q.mid;
    settled = q.settled;
    question = q.question;
    asked = more q.question q.asked;
    cause = q.cause;
    told = q.told;
    fails = q.fails;
  }

pub not_for_memory : (f : TableFault) → register_fault_of f ≡ fault.Store → f ≢ Memory
not_for_memory Memory e = absurd cc
not_for_memory (Store e) is = λ h. cc

-- what is told as the database's own refusal is that of the question for the rows, and no want of memory
pub question_stored : (sql : List ℕ) (params : Row) (old new : State) (why : TableFault) → register_fault_of why ≡ fault.Store → RefusesRows sql params old new why → (e : Error) × IsNotForMemory e × FailsToQuery sql params old new e
question_stored sql params old new why is (inl h) = absurd (not_for_memory why is h.0)
question_stored sql params old new why is (inr h) = (h.0, (λ memory. not_for_memory why is (h.1 ∙ memory)), h.2)

pub rows_stored : (old new : State) (revision : ℕ) (why : TableFault) → register_fault_of why ≡ fault.Store → RefusesRows listing_text (Int (pos revision) ∷ []) old new why
    → (e : Error) × IsNotForMemory e × FailsToQuery listing_text (Int (pos revision) ∷ []) old new e
rows_stored old new revision = question_stored listing_text (Int (pos revision) ∷ []) old new

pub rows_refused : {S : Type 0} (g : Ghosts S) (old new : Held S) (revision : ℕ) (why : TableFault) → IsTrue (state g old).is_open → register_fault_of why ≡ fault.Store → RefusesRows listing_text (Int (pos revision) ∷ []) (state g old) (state g new) why
    → RefusesQuestion g old new (IsForLines revision)
rows_refused g old new revision why live is refused =
    let told = rows_stored (state g old) (state g new) revision why is refused in
    record { mid = old; settled = settled_here g old live; question = asking listing_text revision; asked = refl; cause = told.0; told = told.1; fails = told.2 }
