-- What is made of a question's answer, and one question after another.
use Rattle.std.proofs.Common.{◌≡◌, ◌≤◌, ℕ, List, length, Vec, Global, Result, Ok, Err, IfErr, IsErrAnd, sym, subst}
use Rattle.std.proofs.lemmas.Result.{IfErr-weaker}
use Rattle.sqlite_trees.specs.declared.store.Store.{Ghosts}
use Rattle.sqlite.specs.State.{HasCleanDisk}
use Rattle.sqlite.specs.Held.{Held, state}
use Rattle.cad_tables.specs.Refusals.{Statement}
use Rattle.cad_versions.specs.declared.command.Command.{Command}
use Rattle.cad_versions.specs.declared.fault.RegisterFault.{RegisterFault}
use Rattle.cad_versions.specs.VersionedObject.{VersionedObject}
use Rattle.cad_versions.specs.AsOf.{as_of}
use Rattle.cad_tables.specs.Opening.{IsSettled}
use Rattle.cad_versions.specs.Keeping.{IsAnswered}
use Rattle.cad_register.specs.Leaving.{AsksOnly}
use Rattle.cad_register.specs.Refusing.{Asks, IsForLines}
use Rattle.cad_register.specs.Stands.{Tells, IsStoreFault, IsReadingFault}
use Rattle.cad_register.specs.inner.Inquiring.{Inquires}
use Rattle.cad_tables.specs.lemmas.SettledLemmas.{settled_here, settled_then}
use Rattle.cad_register.proofs.LeavingLemmas.{asks_nothing, asks_as, asks_then, reading_known}
use Rattle.cad_register.proofs.StandLemmas.{IsDecided}
use Rattle.cad_register.proofs.RefusingLemmas.{refuses_more, refuses_then}

module _ {S : Type 0} (g : Ghosts S) where
  -- nothing is asked
  pub inquires_nothing : {X : Type 0} (held : Held S) (IsAsked : Statement → Type 0) (Told : List Command → X → Type 0) (Refused : List Command → RegisterFault → Type 0) (x : X) → ((commands : List Command) → Told commands x)
      → Inquires g held held IsAsked Told Refused (Ok x)
  inquires_nothing held IsAsked Told Refused x tells = record {
    told = λ clean commands stands. (tells commands, stands);
    asked = λ clean commands stands. settled_here g held stands.live;
    leaves = asks_nothing (state g held) (Ok x);
    settled = λ clean live answered. settled_here g held live;
    known = tt;
  }

  module _ (old new : Held S) (IsAsked : Statement → Type 0) {X Y : Type 0} (Told : List Command → X → Type 0) (Refused : List Command → RegisterFault → Type 0) where
    module _ (Others : Statement → Type 0) (Makes : List Command → Y → Type 0) (Fails : List Command → RegisterFault → Type 0) where
      -- something is made of the answer
      pub inquires_as : (x : X) (y : Y) → ((commands : List Command) → Told commands x → Makes commands y) → Inquires g old new IsAsked Told Refused (Ok x) → Inquires g old new Others Makes Fails (Ok y)
      inquires_as x y makes answers = record {
        told = λ clean commands stands. let told = answers.told clean commands stands in (makes commands told.0, told.1);
        asked = answers.asked;
        leaves = asks_as (state g old) (state g new) (Ok x) (Ok y) (λ is. tt) answers.leaves;
        settled = answers.settled;
        known = tt;
      }

      -- it is why the register itself refuses
      pub inquires_in_vain : (x : X) (cause : RegisterFault) → IsDecided cause → ((commands : List Command) → Told commands x → Fails commands cause) → Inquires g old new IsAsked Told Refused (Ok x) → Inquires g old new Others Makes Fails (Err cause)
      inquires_in_vain x cause decided fails answers = record {
        told = λ clean commands stands. let told = answers.told clean commands stands in (fails commands told.0, λ live. told.1);
        asked = λ clean commands stands store. absurd (subst IsDecided store decided);
        leaves = asks_as (state g old) (state g new) (Ok x) (Err cause) (λ is. tt) answers.leaves;
        settled = λ clean live answered. answers.settled clean live tt;
        known = λ unknown. subst IsDecided unknown decided;
      }

      -- a refusal is told to the caller, who asks this and more
      pub inquires_on : (cause : RegisterFault) (s : Result Y RegisterFault) → IsErrAnd s (λ x. x ≡ cause) → ((question : Statement) → IsAsked question → Others question) → ((commands : List Command) → Refused commands cause → Fails commands cause)
          → Inquires g old new IsAsked Told Refused (Err cause) → Inquires g old new Others Makes Fails s
      inquires_on cause (Ok y) is more fails refuses = absurd is
      inquires_on cause (Err x) is more fails refuses = subst (λ e. Inquires g old new Others Makes Fails (Err e)) (sym is) (record {
        told = λ clean commands stands. let told = refuses.told clean commands stands in (fails commands told.0, told.1);
        asked = λ clean commands stands store. refuses_more g old new IsAsked Others more (refuses.asked clean commands stands store);
        leaves = asks_as (state g old) (state g new) (Err cause) (Err cause) (λ is. is) refuses.leaves;
        settled = refuses.settled;
        known = refuses.known;
      })

  -- a second question follows one that was answered
  pub inquires_then : {X Y : Type 0} (old mid new : Held S) (First Second : Statement → Type 0) (Told : List Command → X → Type 0) (Refused : List Command → RegisterFault → Type 0) (Makes Tells : List Command → Y → Type 0) (Fails Refuses : List Command → RegisterFault → Type 0) (x : X) (r : Result Y RegisterFault)
      → ((commands : List Command) (y : Y) → Told commands x → Makes commands y → Tells commands y) → ((commands : List Command) (cause : RegisterFault) → Told commands x → Fails commands cause → Refuses commands cause)
      → Inquires g old mid First Told Refused (Ok x) → Inquires g mid new Second Makes Fails r → Inquires g old new Second Tells Refuses r
  inquires_then old mid new First Second Told Refused Makes Tells Fails Refuses x (Ok y) tells refuses first second = record {
    told = λ clean commands stands.
        let early = first.told (second.leaves.later.clean clean) commands stands in
        let late = second.told clean commands early.1 in
        (tells commands y early.0 late.0, late.1);
    asked = λ clean commands stands.
        let early = second.leaves.later.clean clean in
        settled_then g old mid new (first.asked early commands stands) (second.asked clean commands (first.told early commands stands).1);
    leaves = asks_then (state g old) (state g mid) (state g new) x (Ok y) first.leaves second.leaves;
    settled = λ clean live answered.
        let early = first.settled (second.leaves.later.clean clean) live tt in
        settled_then g old mid new early (second.settled clean early.same.0.is_open answered);
    known = tt;
  }
  inquires_then old mid new First Second Told Refused Makes Tells Fails Refuses x (Err cause) tells refuses first second = record {
    told = λ clean commands stands.
        let early = first.told (second.leaves.later.clean clean) commands stands in
        let late = second.told clean commands early.1 in
        (refuses commands cause early.0 late.0, late.1);
    asked = λ clean commands stands store.
        let early = second.leaves.later.clean clean in
        refuses_then g old mid new Second (first.asked early commands stands) (second.asked clean commands (first.told early commands stands).1 store);
    leaves = asks_then (state g old) (state g mid) (state g new) x (Err cause) first.leaves second.leaves;
    settled = λ clean live answered.
        let early = first.settled (second.leaves.later.clean clean) live tt in
        settled_then g old mid new early (second.settled clean early.same.0.is_open answered);
    known = second.known;
  }

  -- a listing of the newest revision is such a question
  pub inquires_lines : (old new : Held S) (revision : ℕ) (r : Result (Vec VersionedObject Global) RegisterFault)
      → (HasCleanDisk (state g new) → Tells (state g old) (state g new) r (λ commands found. revision ≤ length commands → found.items ≡ as_of revision commands) (λ commands cause. revision ≡ length commands → IsStoreFault cause)) → (HasCleanDisk (state g new) → Asks g old new (IsForLines revision) r) → AsksOnly (state g old) (state g new) r → IfErr r IsReadingFault → (HasCleanDisk (state g new) → IsAnswered r → IsSettled g old new)
      → Inquires g old new (IsForLines revision) (λ commands found. revision ≤ length commands → found.items ≡ as_of revision commands) (λ commands cause. revision ≡ length commands → IsStoreFault cause) r
  inquires_lines old new revision r told asked leaves cause settled = record {
    told = told;
    asked = asked;
    leaves = leaves;
    settled = λ clean live answered. settled clean answered;
    known = IfErr-weaker r _ _ reading_known cause;
  }
