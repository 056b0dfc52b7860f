-- A plain query changes nothing, and one that fails rolls back at most.
use Rattle.std.proofs.Common.{◌≡◌, ◌⊎◌, inl, inr, ℕ, IsTrue, Result, Ok, Err, ◌∙◌, List, Some, None, Option, IsSome, IsErr, OnOk, true≢false, sym, false, arith}
use Rattle.cad_tables.specs.Steps.{KeepsAll}
use Rattle.sqlite_value.specs.Order.{Row}
use Rattle.sqlite.specs.declared.error.Error.{Error}
use Rattle.sqlite.specs.Listing.{understood}
use Rattle.sqlite.specs.State.{State, HasCleanDisk, Shown, IsUnchanged, IsRolledBack, FailsToQuery, IsNotRun, Survives, CommitsShowing}
use Rattle.sqlite.proofs.StateLemmas.{survives_weaker}
use Rattle.sqlite_resolve.specs.declared.compiled.Compiled.{Compiled}
use Rattle.sqlite_resolve.specs.Compile.{first}
use Rattle.sqlite_trees.specs.Tree.{Trees}
use Rattle.cad_tables.specs.Asking.{IsQuery, OnlyReads}
use Rattle.cad_tables.specs.Reading.{RefusesRows}
use Rattle.cad_tables.specs.declared.faults.TableFault.{TableFault}
use Rattle.cad_tables.proofs.QueryTexts.{query_plain}

on_ok : {X F : Type 0} (r : Result X F) (P : Type 0) → P → OnOk r P
on_ok (Ok x) P h = h
on_ok (Err e) P h = tt

pub not_ok : {X F : Type 0} (r : Result X F) (P : Type 0) → IsErr r → OnOk r P
not_ok (Ok x) P h = absurd (true≢false (sym h))
not_ok (Err e) P h = tt

none_is : {X : Type 0} (o : Option X) → o ≡ None → ¬ IsSome o
none_is None is h = true≢false (sym h)
none_is (Some x) is h = absurd cc

module _ (sql : List ℕ) (params : Row) (old new : State) (query : IsQuery (first sql)) where
  plain : (c : Compiled) → understood old.now.schema sql ≡ Ok c → c.returning ≡ None
  plain = query_plain old.now.schema sql query

  pub shown_same : (rows : List Row) → Shown sql params old new rows → IsUnchanged old new
  unfolding Shown
  shown_same rows h = let none = plain h.0 h.1.is in (rw none at h.2).3

  pub fails_back : (e : Error) → FailsToQuery sql params old new e → IsUnchanged old new ⊎ IsRolledBack old new
  unfolding FailsToQuery IsNotRun
  fails_back e (inl (inl h)) = inl h.1
  fails_back e (inl (inr h)) = inr h.3
  fails_back e (inr h) = let none = plain h.0 h.1.is in inl (rw none at h.2).3

  never : (db : Trees) → ¬ CommitsShowing sql params old db
  unfolding CommitsShowing
  never db h = none_is h.0.returning (plain h.0 h.1.is) h.2

  pub survives_quiet : Survives old new (CommitsShowing sql params old) → Survives old new (λ _. ⊥)
  survives_quiet = survives_weaker old new _ _ (λ _ db. never db)

  pub keeps_shown : (rows : List Row) → Shown sql params old new rows → KeepsAll old new
  keeps_shown rows h = let same = shown_same rows h in (same.0.now_is, same.0.committed_is)

  pub keeps_failed : (e : Error) → FailsToQuery sql params old new e → IsTrue new.is_open → old.committed ≡ old.now → KeepsAll old new
  keeps_failed e h open_still settled = elim (fails_back e h) [
    | inl same ↦ (same.0.now_is, same.0.committed_is)
    | inr back ↦ let undone = back.undone open_still in (undone.0 ∙ settled, undone.1)
  ]

  pub failed_open : (e : Error) → FailsToQuery sql params old new e → IsTrue new.is_open → IsTrue old.is_open
  failed_open e h still = elim (fails_back e h) [ inl same ↦ same.0.was_open | inr back ↦ back.was_open still ]

  -- what a call leaves whose one question is this, answered or refused
  module _ {X F : Type 0} (r : Result X F) (mode : old.in_transaction ≡ false → new.in_transaction ≡ false) (survives : Survives old new (CommitsShowing sql params old)) where
    pub reads_shown : (HasCleanDisk new → (rows : List Row) × Shown sql params old new rows) → OnlyReads old new r
    reads_shown told = record {
      same = λ clean. let it = told clean in on_ok r _ (shown_same it.0 it.1);
      kept = λ clean still settled. let it = told clean in keeps_shown it.0 it.1;
      was_open = λ clean still. let it = told clean in (shown_same it.0 it.1).0.was_open;
      clean = λ clean. omega (arith, survives.clean);
      mode = mode;
      survives = survives_quiet survives;
    }

    pub reads_refused : IsErr r → (HasCleanDisk new → (fault : TableFault) × RefusesRows sql params old new fault) → OnlyReads old new r
    reads_refused bad told = record {
      same = λ clean. not_ok r _ bad;
      kept = λ clean still settled. elim (told clean).1 [ inl h ↦ (h.1.0.now_is, h.1.0.committed_is) | inr h ↦ keeps_failed h.0 h.2 still settled ];
      was_open = λ clean still. elim (told clean).1 [ inl h ↦ h.1.0.was_open | inr h ↦ failed_open h.0 h.2 still ];
      clean = λ clean. omega (arith, survives.clean);
      mode = mode;
      survives = survives_quiet survives;
    }

    pub reads_failed : IsErr r → (HasCleanDisk new → (e : Error) × FailsToQuery sql params old new e) → OnlyReads old new r
    reads_failed bad told = record {
      same = λ clean. not_ok r _ bad;
      kept = λ clean still settled. let it = told clean in keeps_failed it.0 it.1 still settled;
      was_open = λ clean still. let it = told clean in failed_open it.0 it.1 still;
      clean = λ clean. omega (arith, survives.clean);
      mode = mode;
      survives = survives_quiet survives;
    }
