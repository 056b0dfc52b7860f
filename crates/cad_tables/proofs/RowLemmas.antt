-- Rows that are read one at a time.
use Rattle.std.proofs.Common.{◌≡◌, ◌≤◌, ℕ, List, [], ◌∷◌, ◌++◌, Result, Ok, Err, Some, None, false, refl, sym, subst, inl, inr, arith, Vec, Global, IfOk, IfErr}
use Rattle.std.specs.List.{AllZip}
use Rattle.std.proofs.Math.Nat.{le_refl}
use Rattle.sqlite_value.specs.Order.{Row}
use Rattle.sqlite_trees.specs.declared.store.Store.{Ghosts}
use Rattle.sqlite_resolve.specs.declared.compiled.Compiled.{Compiled}
use Rattle.sqlite_resolve.specs.declared.error.CompileError.{CompileError}
use Rattle.sqlite_resolve.specs.Compile.{first}
use Rattle.sqlite.specs.Clock.{timed}
use Rattle.sqlite.specs.Effect.{Database, RefusesToRead}
use Rattle.sqlite.specs.Listing.{understood, reads_listing, IsSourceOf}
use Rattle.sqlite.specs.Held.{Held, state}
use Rattle.sqlite.specs.Given.{Returns, HasGiven, HasBegun, Advances, FailsToAdvance}
use Rattle.sqlite.specs.State.{State, HasCleanDisk, IsUnchanged, IsStatement, Survives, Shown, ShowsRows, FailsToQuery, FailsToShow, IsNotRun, CommitsShowing}
use Rattle.sqlite.specs.declared.error.Error.{Error}
use Rattle.sqlite.proofs.StateLemmas.{survives_then, unchanged}
use Rattle.sqlite.proofs.StreamLemmas.{fails_since}
use Rattle.sqlite.proofs.Callers.{unchanged_then}
use Rattle.cad_tables.specs.Asking.{IsQuery, OnlyReads}
use Rattle.cad_tables.specs.Faults.{fault_of}
use Rattle.cad_tables.specs.Reading.{AreShown, AreGiven, AreRead, RefusesRows, RefusesRest}
use Rattle.cad_tables.specs.declared.faults.TableFault.{TableFault}
use Rattle.cad_tables.specs.declared.faults.TableFault.TheVariants.{Memory}
use Rattle.cad_tables.proofs.QueryTexts.{query_plain}
use Rattle.cad_tables.proofs.Quiet.{reads_shown, reads_refused}
use Rattle.std.proofs.lemmas.Slice.Zip.{all_zipped_more}
use Rattle.std.proofs.lemmas.Result.{IfOk-weaker, IfErr-weaker}

-- What is said of a query at a later moment, with all as it was, is true of it from the first.
module _ (sql : List ℕ) (params : Row) (query : IsQuery (first sql)) (old mid new : State) (same : IsUnchanged old mid) (counts : old.faults ≤ mid.faults) (limit : mid.step_limit ≡ old.step_limit) where
  abbrev since : (c : Compiled) → IsStatement mid sql params c → IsStatement old sql params c
  since c h = record { is = subst (λ (d : Database). understood d.schema sql ≡ Ok c) same.0.now_is h.is; whole = h.whole; given = h.given; now = h.now }

  source_since : (db : Database) → IsSourceOf (reads_listing mid.now.schema sql) mid.now db → IsSourceOf (reads_listing old.now.schema sql) old.now db
  source_since db = subst (λ (d : Database). IsSourceOf (reads_listing d.schema sql) d db) same.0.now_is

  pub shown_since : (rows : List Row) → Shown sql params mid new rows → Shown sql params old new rows
  unfolding Shown
  shown_since rows h =
      let none = query_plain old.now.schema sql query h.0 (since h.0 h.1).is in
      let full = timed params h.0.formats h.1.now in
      let it = subst (ShowsRows mid new sql h.0 full rows) none h.2 in
      (h.0, since h.0 h.1, subst (ShowsRows old new sql h.0 full rows) (sym none) (it.0, source_since it.0 it.1, it.2, unchanged_then old mid new same it.3))

  pub failed_since : (e : Error) → FailsToQuery sql params mid new e → FailsToQuery sql params old new e
  unfolding FailsToQuery IsNotRun
  failed_since e (inl (inl h)) = inl (inl (rw (← same.0.now_is) h.0, unchanged_then old mid new same h.1))
  failed_since e (inl (inr h)) = inl (inr (fails_since old mid new same counts e h))
  failed_since e (inr h) =
      let none = query_plain old.now.schema sql query h.0 (since h.0 h.1).is in
      let full = timed params h.0.formats h.1.now in
      let it = subst (FailsToShow mid new sql h.0 full e) none h.2 in
      inr (
        h.0,
        since h.0 h.1,
        subst (FailsToShow old new sql h.0 full e) (sym none)
            (it.0, source_since it.0 it.1, subst (λ l. RefusesToRead l h.0.command it.0 full e) limit it.2, unchanged_then old mid new same it.3),
      )

survives_here : (s : State) → Survives s s (λ _. ⊥)
survives_here s = record { clean = le_refl _; shield = λ h. h; counts = le_refl s.faults; limit = refl; closes = λ clean still. inl still; crash = λ clean db left. inl left }

module _ {S : Type 0} (g : Ghosts S) {X : Type 0} (Fits : Row → X → Type 0) where
  -- a query that was at its start has given these rows, and each was read, while all is as it was
  pub record HasReadOn (start now : Held S) (found : List X) : Type 0 where
    pub given : List Row
    pub read : AllZip Fits given found
    pub still : HasCleanDisk (state g now) → (sql : List ℕ) (params : Row) → HasGiven g sql params start [] → HasGiven g sql params now given × IsUnchanged (state g start) (state g now)
    pub mode : start.in_transaction ≡ false → now.in_transaction ≡ false
    pub survives : Survives (state g start) (state g now) (λ _. ⊥)

  module _ (start now : Held S) (found : List X) (so_far : HasReadOn start now found) (new : Held S) (moves : Survives (state g now) (state g new) (λ _. ⊥)) where
    pub survives_on : Survives (state g start) (state g new) (λ _. ⊥)
    survives_on = survives_then (state g start) (state g now) (state g new) _ _ _ (λ clean db h. h) (λ clean db h. h) so_far.survives moves

    was_clean : HasCleanDisk (state g new) → HasCleanDisk (state g now)
    was_clean clean = omega (arith, moves.clean)

    -- the rows so far are all
    pub all_given : (HasCleanDisk (state g new) → Advances g now new None) → AreRead Fits (AreGiven g start new) found
    all_given ends = (
      so_far.given,
      λ clean sql params query at_start.
          let still = so_far.still (was_clean clean) sql params at_start in
          shown_since sql params query (state g start) (state g now) (state g new) still.1 so_far.survives.counts so_far.survives.limit so_far.given (ends clean sql params so_far.given still.0),
      so_far.read,
    )

    -- the database refuses the next
    pub rest_refused : (e : Error) → HasCleanDisk (state g new) → FailsToAdvance g now new e → RefusesRest g start new (fault_of e)
    rest_refused e clean fails sql params query at_start =
        let still = so_far.still (was_clean clean) sql params at_start in
        inr (e, refl, failed_since sql params query (state g start) (state g now) (state g new) still.1 so_far.survives.counts so_far.survives.limit e (fails sql params so_far.given still.0))

    -- one row more, which is read or for which there is no memory
    module _ (same : HasCleanDisk (state g new) → IsUnchanged (state g now) (state g new)) where
      pub no_room : HasCleanDisk (state g new) → RefusesRest g start new Memory
      no_room clean sql params query at_start = inl (refl, unchanged_then (state g start) (state g now) (state g new) (so_far.still (was_clean clean) sql params at_start).1 (same clean))

      pub one_more : (now.in_transaction ≡ false → new.in_transaction ≡ false) → (row : Row) (x : X) → (HasCleanDisk (state g new) → Advances g now new (Some row)) → Fits row x → HasReadOn start new (found ++ x ∷ [])
      one_more mode row x gives fits = record {
        given = so_far.given ++ row ∷ [];
        read = all_zipped_more Fits so_far.given found row x so_far.read fits;
        still = λ clean sql params at_start.
            let still = so_far.still (was_clean clean) sql params at_start in
            (gives clean sql params so_far.given still.0, unchanged_then (state g start) (state g now) (state g new) still.1 (same clean));
        mode = λ alone. mode (so_far.mode alone);
        survives = survives_on;
      }

  start_same : (sql : List ℕ) (params : Row) (start : Held S) → HasGiven g sql params start [] → IsUnchanged (state g start) (state g start)
  unfolding HasGiven
  start_same sql params start h = unchanged (state g start) h.0.is_open

  -- nothing was read
  pub none_read : (start : Held S) → HasReadOn start start []
  none_read start = record {
    given = [];
    read = tt;
    still = λ clean sql params at_start. (at_start, start_same sql params start at_start);
    mode = λ alone. alone;
    survives = survives_here (state g start);
  }

-- ---- a query from its first row to its last

never_returns : (r : Result Compiled CompileError) → ((c : Compiled) → r ≡ Ok c → c.returning ≡ None) → ¬ Returns r
never_returns (Ok c) plain some = absurd (let none = rw (plain c refl) at some in cc)
never_returns (Err e) plain some = some

module _ {S : Type 0} (g : Ghosts S) (sql : List ℕ) (params : Row) (query : IsQuery (first sql)) (old start last : Held S) (begun : HasCleanDisk (state g start) → HasBegun g sql params old start)
    (begins : Survives (state g old) (state g start) (CommitsShowing sql params (state g old))) (moves : Survives (state g start) (state g last) (λ _. ⊥)) where
  start_clean : HasCleanDisk (state g last) → HasCleanDisk (state g start)
  start_clean clean = omega (arith, moves.clean)

  at_start : HasCleanDisk (state g start) → HasGiven g sql params start [] × IsUnchanged (state g old) (state g start)
  at_start clean = elim (begun clean) [
    | inl h ↦ h
    | inr h ↦ absurd (never_returns (understood old.schema sql) (query_plain old.schema sql query) h.0)
  ]

  pub survives_all : Survives (state g old) (state g last) (CommitsShowing sql params (state g old))
  survives_all = survives_then (state g old) (state g start) (state g last) _ _ _ (λ clean db h. h) (λ clean db h. absurd h) begins moves

  all_shown : (rows : List Row) → AreGiven g start last rows → AreShown sql params (state g old) (state g last) rows
  all_shown rows given clean =
      let began = at_start (start_clean clean) in
      shown_since sql params query (state g old) (state g start) (state g last) began.1 begins.counts begins.limit rows (given clean sql params query began.0)

  pub whole_refused : (fault : TableFault) → HasCleanDisk (state g last) → RefusesRest g start last fault → RefusesRows sql params (state g old) (state g last) fault
  whole_refused fault clean refused =
      let began = at_start (start_clean clean) in
      go (refused sql params query began.0)
    where
      go : RefusesRows sql params (state g start) (state g last) fault → RefusesRows sql params (state g old) (state g last) fault
      go (inl h) = inl (h.0, unchanged_then (state g old) (state g start) (state g last) (at_start (start_clean clean)).1 h.1)
      go (inr h) = inr (h.0, h.1, failed_since sql params query (state g old) (state g start) (state g last) (at_start (start_clean clean)).1 begins.counts begins.limit h.0 h.2)

  -- the connection may be named otherwise once the query is let go
  module _ (new : State) (is : new ≡ state g last) {X : Type 0} (Fits : Row → X → Type 0) (r : Result (Vec X Global) TableFault) where
    pub each_shown : IfOk r (λ found. AreRead Fits (AreGiven g start last) found.items) → IfOk r (λ found. AreRead Fits (AreShown sql params (state g old) new) found.items)
    each_shown = subst (λ h. IfOk r (λ found. AreRead Fits (AreGiven g start last) found.items) → IfOk r (λ found. AreRead Fits (AreShown sql params (state g old) h) found.items)) (sym is)
        (IfOk-weaker r _ _ (λ found read. (read.0, all_shown read.0 read.1, read.2)))

    pub each_refused : (HasCleanDisk (state g last) → IfErr r (RefusesRest g start last)) → HasCleanDisk new → IfErr r (RefusesRows sql params (state g old) new)
    each_refused = subst (λ h. (HasCleanDisk (state g last) → IfErr r (RefusesRest g start last)) → HasCleanDisk h → IfErr r (RefusesRows sql params (state g old) h)) (sym is)
        (λ refused clean. IfErr-weaker r _ _ (λ fault. whole_refused fault clean) (refused clean))

    each_reads : (q : Result (Vec X Global) TableFault) → (old.in_transaction ≡ false → last.in_transaction ≡ false) → IfOk q (λ found. AreRead Fits (AreGiven g start last) found.items) → (HasCleanDisk (state g last) → IfErr q (RefusesRest g start last)) → OnlyReads (state g old) (state g last) q
    each_reads (Ok found) mode shown refused = reads_shown sql params (state g old) (state g last) query (Ok found) mode survives_all (λ clean. (shown.0, all_shown shown.0 shown.1 clean))
    each_reads (Err fault) mode shown refused = reads_refused sql params (state g old) (state g last) query (Err fault) mode survives_all refl (λ clean. (fault, whole_refused fault clean (refused clean)))

    pub each_only_reads : (old.in_transaction ≡ false → last.in_transaction ≡ false) → IfOk r (λ found. AreRead Fits (AreGiven g start last) found.items) → (HasCleanDisk (state g last) → IfErr r (RefusesRest g start last)) → OnlyReads (state g old) new r
    each_only_reads mode shown refused = subst (λ h. OnlyReads (state g old) h r) (sym is) (each_reads r mode shown refused)
