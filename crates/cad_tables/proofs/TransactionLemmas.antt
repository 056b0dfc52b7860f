-- A transaction from its begin to its commit.
use Rattle.std.proofs.Common.{◌≡◌, ◌≤◌, inl, inr, List, [], ℕ, true, false, refl, sym, subst, ◌∙◌, arith}
use Rattle.sqlite_trees.specs.Tree.{Trees}
use Rattle.sqlite_trees.specs.declared.store.Store.{Ghosts}
use Rattle.sqlite.specs.State.{HasCleanDisk, Survives, Shows}
use Rattle.sqlite.specs.Effect.{IsDatabase}
use Rattle.sqlite.specs.Held.{Held, state}
use Rattle.sqlite.proofs.StateLemmas.{survives_then}
use Rattle.sqlite.proofs.Callers.{survives_begin}
use Rattle.sqlite.specs.Steps.{FailsToCommit}
use Rattle.sqlite.specs.declared.error.Error.{Error}
use Rattle.cad_tables.specs.Refusals.{Statement, RanAll, OneIsRefused, RefusesTransaction}
use Rattle.cad_tables.proofs.RefusalLemmas.{later}
use Rattle.cad_tables.specs.Holding.{Holds}
use Rattle.cad_tables.specs.VersionRow.{VersionRow}
use Rattle.cad_tables.specs.declared.changes.Change.{Change}
use Rattle.cad_tables.specs.Steps.{MakesTables, Creates, CreatesTo, Commands, Commits, CommitsTo, IsWrittenTo}

-- A crash leaves what it left before the transaction, or what the commit wrote.
module _ {S : Type 0} (g : Ghosts S) (old begun last ended : Held S) (begins : begun ≡ record old { in_transaction = true }) (P : Trees → Type 0) where
  pub crash_through : (HasCleanDisk (state g last) → P (state g last).now.trees) → Survives (state g begun) (state g last) (λ _. ⊥) → Survives (state g last) (state g ended) (λ db. db ≡ (state g last).now.trees) → Survives (state g old) (state g ended) P
  crash_through made inside after =
      survives_then (state g old) (state g last) (state g ended) _ _ P (λ _ db none. absurd none) (λ clean db is. subst P (sym is) (made (omega (arith, after.clean)))) (survives_begin g old (state g last) _ (rw begins at inside)) after

module _ {S L : Type 0} (g : Ghosts S) (line_of : L → VersionRow) (old begun last ended : Held S) (change : Change L) (revision : ℕ) (begins : begun ≡ record old { in_transaction = true }) where
  pub commits : Commands line_of change revision (state g begun) (state g last) → Shows (state g last) (state g ended) (state g last).now (state g last).now false
      → Commits line_of change revision (state g old) (state g ended)
  commits made shown =
      let from : Commands line_of change revision (state g (record old { in_transaction = true })) (state g last) = rw begins at made in
      record {
        written = subst (IsWrittenTo line_of change revision (state g old)) (sym shown.now_is) from.written;
        committed = shown.committed_is ∙ sym shown.now_is;
        was_open = from.inside.was_open;
        is_open = shown.is_open;
        ended = shown.mode;
      }

  pub crashes : (HasCleanDisk (state g last) → Commands line_of change revision (state g begun) (state g last)) → Survives (state g begun) (state g last) (λ _. ⊥) → Survives (state g last) (state g ended) (λ db. db ≡ (state g last).now.trees)
      → Survives (state g old) (state g ended) (CommitsTo line_of change revision (state g old))
  crashes made inside after =
      crash_through g old begun last ended begins (CommitsTo line_of change revision (state g old))
      (λ clean.
      let from : Commands line_of change revision (state g (record old { in_transaction = true })) (state g last) = rw begins at (made clean) in
      ((state g last).now, from.written, refl))
      inside after

module _ {S : Type 0} (g : Ghosts S) (old begun last ended : Held S) (begins : begun ≡ record old { in_transaction = true }) where
  pub creates : MakesTables (state g begun) (state g last) → Shows (state g last) (state g ended) (state g last).now (state g last).now false → Creates (state g old) (state g ended)
  creates made shown =
      let from : MakesTables (state g (record old { in_transaction = true })) (state g last) = rw begins at made in
      record {
        free = from.free;
        holds = λ none. subst (λ db. Holds 0 [] db × IsDatabase db) (sym shown.now_is) (from.holds none);
        committed = shown.committed_is ∙ sym shown.now_is;
        was_open = from.inside.was_open;
        is_open = shown.is_open;
        ended = shown.mode;
      }

  pub crashes_creating : (HasCleanDisk (state g last) → MakesTables (state g begun) (state g last)) → Survives (state g begun) (state g last) (λ _. ⊥) → Survives (state g last) (state g ended) (λ db. db ≡ (state g last).now.trees)
      → Survives (state g old) (state g ended) (CreatesTo (state g old))
  crashes_creating made inside after =
      crash_through g old begun last ended begins (CreatesTo (state g old))
      (λ clean.
      let from : MakesTables (state g (record old { in_transaction = true })) (state g last) = rw begins at (made clean) in
      ((state g last).now, from.holds, refl))
      inside after

module _ {S : Type 0} (g : Ghosts S) (old begun last ended : Held S) (begins : begun ≡ record old { in_transaction = true }) (e : Error) (statements : List Statement) where
  pub statement_refused : OneIsRefused g statements e begun last → (state g last).faults ≤ (state g ended).faults → RefusesTransaction g statements e old ended
  statement_refused h up =
      let from : Held S = record old { in_transaction = true } in
      inr (inl (later g statements from last ended e up (subst (λ b. OneIsRefused g statements e b last) begins h)))

  pub commit_refused : RanAll g statements begun last → FailsToCommit (state g last) (state g ended) e → RefusesTransaction g statements e old ended
  commit_refused ran h = inr (inr (last, subst (λ b. RanAll g statements b last) begins ran, h))
