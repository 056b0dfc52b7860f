-- Steps of a transaction: one statement, and one step after another.
use Rattle.std.proofs.Common.{◌≡◌, ℕ, false, inl, IsTrue, List, [], ◌∷◌, ◌++◌, Result, Ok, Err, OnOk, IsErrAnd, refl, arith}
use Rattle.sqlite_trees.specs.declared.store.Store.{Ghosts}
use Rattle.sqlite.specs.declared.error.Error.{Error}
use Rattle.sqlite.specs.State.{State, HasCleanDisk, Survives, ExecutesInside}
use Rattle.sqlite.specs.Held.{Held, state}
use Rattle.sqlite.proofs.StateLemmas.{survives_then}
use Rattle.sqlite.proofs.InsideLemmas.{inside_keeps, keeps_then}
use Rattle.cad_tables.specs.Refusals.{Statement}
use Rattle.cad_tables.specs.Transactions.{TakesStep}
use Rattle.cad_tables.proofs.StepLemmas.{on_ok_then}
use Rattle.cad_tables.proofs.RefusalLemmas.{told, if_err_then, refused_here, among_first, among_last, ran_then}

no_ok : (Q : Type 0) (e : Error) (r : Result (Unit {0}) Error) → IsErrAnd r (λ x. x ≡ e) → OnOk r Q
no_ok Q e (Ok x) is = absurd is
no_ok Q e (Err x) is = tt

module _ {S : Type 0} (g : Ghosts S) where
  -- what running a statement is said to be
  abbrev pub Runs : Statement → Held S → Held S → Result ℕ Error → Type 0
  Runs s old new r = HasCleanDisk (state g new) → IsTrue (state g old).in_transaction → ExecutesInside 0 s.text s.params (state g old) (state g new) r

  module _ (Does : State → State → Type 0) (s : Statement) (old new : Held S) (survives : Survives (state g old) (state g new) (λ _. ⊥)) where
    -- one statement is run
    pub one_done : (count : ℕ) → Runs s old new (Ok count) → (ExecutesInside 0 s.text s.params (state g old) (state g new) (Ok count) → Does (state g old) (state g new)) → TakesStep g Does (s ∷ []) old new (Ok tt)
    one_done count runs does = record {
      does = λ clean inside. does (runs clean inside);
      ran = λ clean inside. (new, record { count = count; runs = runs clean inside; limit = survives.limit; faults = survives.counts }, refl);
      refused = λ clean inside. tt;
      kept = λ clean inside. inside_keeps (state g old) (state g new) 0 false s.text s.params (Ok count) (runs clean inside);
      survives = survives;
    }

    -- one statement is refused
    pub one_refused : (e : Error) (result : Result (Unit {0}) Error) → IsErrAnd result (λ x. x ≡ e) → Runs s old new (Err e) → TakesStep g Does (s ∷ []) old new result
    one_refused e result is runs = record {
      does = λ clean inside. no_ok _ e result is;
      ran = λ clean inside. no_ok _ e result is;
      refused = λ clean inside. told _ result e is (inl (refused_here g s old new e (runs clean inside)));
      kept = λ clean inside. inside_keeps (state g old) (state g new) 0 false s.text s.params (Err e) (runs clean inside);
      survives = survives;
    }

  -- the same step does what follows
  pub step_does : (First Both : State → State → Type 0) (ss : List Statement) (a b : Held S) (result : Result (Unit {0}) Error) → TakesStep g First ss a b result → (First (state g a) (state g b) → Both (state g a) (state g b)) → TakesStep g Both ss a b result
  step_does First Both ss a b result step more = record {
    does = λ clean inside. on_ok_then result (step.does clean inside) more;
    ran = step.ran;
    refused = step.refused;
    kept = step.kept;
    survives = step.survives;
  }

  still_clean : (b c : Held S) → Survives (state g b) (state g c) (λ _. ⊥) → HasCleanDisk (state g c) → HasCleanDisk (state g b)
  still_clean b c survives clean = omega (arith, survives.clean)

  module _ (First Both : State → State → Type 0) (ss ts : List Statement) (a b : Held S) where
    -- a step, and then another
    pub step_then : (Second : State → State → Type 0) (c : Held S) (result : Result (Unit {0}) Error) → TakesStep g First ss a b (Ok tt) → TakesStep g Second ts b c result
        → (First (state g a) (state g b) → IsTrue (state g b).in_transaction) → (First (state g a) (state g b) → Second (state g b) (state g c) → Both (state g a) (state g c)) → TakesStep g Both (ss ++ ts) a c result
    step_then Second c result first second mode join =
        let early = λ (clean : HasCleanDisk (state g c)). still_clean b c second.survives clean in
        record {
          does = λ clean inside. let one = first.does (early clean) inside in on_ok_then result (second.does clean (mode one)) (join one);
          ran = λ clean inside. let one = first.does (early clean) inside in on_ok_then result (second.ran clean (mode one)) (ran_then g ss ts a b c (first.ran (early clean) inside));
          refused = λ clean inside. let one = first.does (early clean) inside in if_err_then result (second.refused clean (mode one)) (λ e h. among_last g ss ts a b c e (first.ran (early clean) inside) h);
          kept = λ clean inside. let one = first.does (early clean) inside in keeps_then (state g a) (state g b) (state g c) (first.kept (early clean) inside) (second.kept clean (mode one));
          survives = survives_then (state g a) (state g b) (state g c) (λ _. ⊥) (λ _. ⊥) (λ _. ⊥) (λ _ db none. none) (λ _ db none. none) first.survives second.survives;
        }

    -- the first of them is refused
    pub step_refused : (e : Error) (result : Result (Unit {0}) Error) → IsErrAnd result (λ x. x ≡ e) → TakesStep g First ss a b (Err e) → TakesStep g Both (ss ++ ts) a b result
    step_refused e result is first = record {
      does = λ clean inside. no_ok _ e result is;
      ran = λ clean inside. no_ok _ e result is;
      refused = λ clean inside. told _ result e is (among_first g ss ts a b e (first.refused clean inside));
      kept = first.kept;
      survives = first.survives;
    }

    -- the second of them is refused
    pub then_refused : (Second : State → State → Type 0) (c : Held S) (e : Error) (result : Result (Unit {0}) Error) → IsErrAnd result (λ x. x ≡ e) → TakesStep g First ss a b (Ok tt) → TakesStep g Second ts b c (Err e)
        → (First (state g a) (state g b) → IsTrue (state g b).in_transaction) → TakesStep g Both (ss ++ ts) a c result
    then_refused Second c e result is first second mode =
        let early = λ (clean : HasCleanDisk (state g c)). still_clean b c second.survives clean in
        record {
          does = λ clean inside. no_ok _ e result is;
          ran = λ clean inside. no_ok _ e result is;
          refused = λ clean inside. let one = first.does (early clean) inside in told _ result e is (among_last g ss ts a b c e (first.ran (early clean) inside) (second.refused clean (mode one)));
          kept = λ clean inside. let one = first.does (early clean) inside in keeps_then (state g a) (state g b) (state g c) (first.kept (early clean) inside) (second.kept clean (mode one));
          survives = survives_then (state g a) (state g b) (state g c) (λ _. ⊥) (λ _. ⊥) (λ _. ⊥) (λ _ db none. none) (λ _ db none. none) first.survives second.survives;
        }
