-- What a register's database answers to the question for its revision.
use Rattle.std.proofs.Common.{◌≡◌, ◌≤◌, ◌^◌, inl, inr, ℕ, List, [], IsTrue, true, false, nat_lt, nat_le, Option, Some, Ok, Err, IfOk, IsOk, OnOk, Result, refl, sym, ap, ◌∙◌, arith, subst, true≢false, Bool}
use Rattle.std.proofs.lemmas.Bool.Decides.{nat_tests}
use Rattle.sqlite_value.specs.Order.{Row}
use Rattle.sqlite_trees.specs.declared.error.StoreError.{StoreError}
use Rattle.sqlite_trees.specs.declared.error.StoreError.TheVariants.{OutOfMemory, Io, Corrupt, Full, Broken, Unstorable}
use Rattle.sqlite_schema.specs.declared.command.Command.{Command}
use Rattle.sqlite_schema.specs.declared.command.Command.TheVariants.{Select, Rows}
use Rattle.sqlite_schema.specs.declared.program.Program.{Program}
use Rattle.sqlite_resolve.specs.declared.error.CompileError.{CompileError}
use Rattle.sqlite_resolve.specs.declared.error.CompileError.TheVariants.{Exists}
use Rattle.cad_tables.specs.Faults.{is_name_taken}
use Rattle.cad_tables.specs.Opening.{Finds}
use Rattle.sqlite.specs.declared.error.Error.{Error}
use Rattle.sqlite.specs.Effect.{Database, RefusesToRead}
use Rattle.sqlite.specs.Clock.{timed}
use Rattle.sqlite.specs.Listing.{understood}
use Rattle.sqlite.specs.State.{State, store_error, IsNoStatement, IsNotRun, IsUnchanged, FailsToQuery, QueriesRow, HasCleanDisk, Survives, CommitsShowing}
use Rattle.sqlite.proofs.StateLemmas.{survives_then}
use Rattle.sqlite.proofs.Callers.{command_of, unchanged_then}
use Rattle.cad_tables.specs.VersionRow.{VersionRow}
use Rattle.cad_tables.specs.Tables.{register_schema}
use Rattle.sqlite.specs.declared.error.Error.TheVariants.{SqlInputError, QueryReturnedNoRows}
use Rattle.cad_tables.specs.Texts.{revision_text, listing_text}
use Rattle.cad_tables.specs.Holding.{Holds}
use Rattle.cad_tables.specs.Steps.{KeepsAll}
use Rattle.cad_tables.specs.Opening.{most_revision, revision_in, is_lacking, TellsRevision, LacksColumns}
use Rattle.cad_tables.proofs.Parse.{revision_is, listing_is}
use Rattle.cad_tables.proofs.QueryTexts.{revision_asks, query_plain}
use Rattle.cad_tables.specs.Asking.{OnlyReads}
use Rattle.cad_tables.proofs.Quiet.{shown_same, keeps_shown, keeps_failed, survives_quiet, failed_open}
use Rattle.cad_tables.proofs.Statements.{reads_revision, shows_revision}

store_stands : (cause : StoreError) → is_lacking (store_error cause) ≡ false
store_stands OutOfMemory = refl
store_stands Io = refl
store_stands Corrupt = refl
store_stands Full = refl
store_stands Broken = refl
store_stands Unstorable = refl

-- the text is understood as a query, so no name is missing
module _ (s : State) (sql : List ℕ) (q : Program) (names : List (List ℕ)) (is : command_of (understood s.now.schema sql) ≡ Select q names) where
  pub understood_here : (fault : CompileError) → ¬ (understood s.now.schema sql ≡ Err fault)
  understood_here fault h = absurd (let e = sym (ap command_of h) ∙ is in cc)

  pub statement_stands : (params : Row) (e : Error) → IsNoStatement s sql params e → is_lacking e ≡ false
  statement_stands params e (inl h) = absurd (understood_here h.0 h.1)
  statement_stands params e (inr (c, known, inl h)) = rw h.1
  statement_stands params e (inr (c, known, inr (inl h))) = rw h.1
  statement_stands params e (inr (c, known, inr (inr h))) = rw h.1

  module _ (new : State) (params : Row) where
    pub run_stands : (e : Error) → IsNotRun s new sql params e → is_lacking e ≡ false
    unfolding IsNotRun
    run_stands e (inl h) = statement_stands params e h.0
    run_stands e (inr h) = rw h.1 (store_stands h.0)

reads_stand : (limit : Option ℕ) (k : Command) (db : Database) (params : Row) (e : Error) → RefusesToRead limit k db params e → is_lacking e ≡ false
reads_stand limit (Select q names) db params e (inl h) = rw h.0
reads_stand limit (Select q names) db params e (inr (inl h)) = rw h.0
reads_stand limit (Select q names) db params e (inr (inr h)) = rw h.0
reads_stand limit (Rows values width names) db params e h = rw h.0
reads_stand limit _ db params e h = rw h

module _ (old new : State) (n : ℕ) (lines : List VersionRow) (has : Holds n lines old.now) where
  is_here : command_of (understood old.now.schema revision_text) ≡ command_of (understood register_schema revision_text)
  is_here = ap (λ s. command_of (understood s revision_text)) has.schema

  asks_stand : (e : Error) → FailsToQuery revision_text [] old new e → is_lacking e ≡ false
  unfolding FailsToQuery
  asks_stand e (inl h) = run_stands old revision_text _ _ (is_here ∙ revision_is.0) new [] e h
  asks_stand e (inr h) =
      let none = query_plain old.now.schema revision_text revision_asks h.0 h.1.is in
      let shown = rw none at h.2 in
      reads_stand old.step_limit h.0.command shown.0 (timed [] h.0.formats h.1.now) e shown.2

  never_lacks : (e : Error) → QueriesRow revision_text [] old new (Err e) → ¬ (is_lacking e ≡ true)
  unfolding QueriesRow
  never_lacks e (inl h) lacks = absurd (let stands = asks_stand e h in cc)
  never_lacks e (inr h) lacks = absurd (let rows = shows_revision old new n lines [] has h.1 in cc)

  pub tells : n ≤ most_revision → (found : Option ℕ) → TellsRevision old new found → found ≡ Some n
  tells low found (inl (row, asked, is)) =
      let below : nat_lt n (2 ^ 32) ≡ true = grind (arith, nat_tests) in
      let stored : nat_le n most_revision ≡ true = grind (arith, nat_tests) in
      is ∙ ap revision_in (reads_revision old new n lines row has asked) ∙ rw (below, stored)
  tells low found (inr (e, asked, lacks, is)) = absurd (never_lacks e asked lacks)

-- ---- the text that names the columns of `version`
module _ (old new : State) (sql : List ℕ) (params : Row) (e : Error) where
  pub keeps_not_run : IsNotRun old new sql params e → IsTrue new.is_open → old.committed ≡ old.now → KeepsAll old new
  unfolding IsNotRun
  keeps_not_run (inl h) still settled = (h.1.0.now_is, h.1.0.committed_is)
  keeps_not_run (inr h) still settled = let undone = h.3.undone still in (undone.0 ∙ settled, undone.1)

  pub not_run_open : IsNotRun old new sql params e → IsTrue new.is_open → IsTrue old.is_open
  unfolding IsNotRun
  not_run_open (inl h) still = h.1.0.was_open
  not_run_open (inr h) still = h.3.was_open still

  pub not_understood : IsNotRun old new sql params e → is_lacking e ≡ true → (fault : CompileError) × (understood old.now.schema sql ≡ Err fault) × (is_lacking (SqlInputError fault) ≡ true)
  unfolding IsNotRun
  not_understood (inl (inl h, same)) lacks = (h.0, h.1, ap is_lacking (sym h.2) ∙ lacks)
  not_understood (inl (inr (c, known, inl h), same)) lacks = absurd (let no = rw h.1 at lacks in cc)
  not_understood (inl (inr (c, known, inr (inl h)), same)) lacks = absurd (let no = rw h.1 at lacks in cc)
  not_understood (inl (inr (c, known, inr (inr h)), same)) lacks = absurd (let no = rw h.1 at lacks in cc)
  not_understood (inr h) lacks = absurd (let stands = store_stands h.0 in let no = rw h.1 at lacks in cc)

pub no_columns_lacking : (n : ℕ) (lines : List VersionRow) (db : Database) → Holds n lines db → ¬ LacksColumns db.schema
no_columns_lacking n lines db has h = absurd (let e = sym (ap (λ s. command_of (understood s listing_text)) has.schema) ∙ ap command_of h.1 in let is = listing_is.0 in cc)

-- ---- what the question for the revision leaves
module _ (old new : State) where
  row_same : (row : Row) → QueriesRow revision_text [] old new (Ok row) → IsUnchanged old new
  unfolding QueriesRow
  row_same row (inl h) = h.1
  row_same row (inr h) = shown_same revision_text [] old new revision_asks h.0 h.1

  -- a store that failed says so, and not that a name is missing
  lacking_same : (e : Error) → QueriesRow revision_text [] old new (Err e) → is_lacking e ≡ true → IsUnchanged old new
  unfolding QueriesRow FailsToQuery IsNotRun
  lacking_same e (inl (inl (inl h))) lacks = h.1
  lacking_same e (inl (inl (inr h))) lacks = absurd (let stands = store_stands h.0 in let no = rw h.1 at lacks in cc)
  lacking_same e (inl (inr h)) lacks = let none = query_plain old.now.schema revision_text revision_asks h.0 h.1.is in (rw none at h.2).3
  lacking_same e (inr h) lacks = shown_same revision_text [] old new revision_asks [] h.1

  pub told_same : (found : Option ℕ) → TellsRevision old new found → IsUnchanged old new
  told_same found (inl (row, asked, is)) = row_same row asked
  told_same found (inr (e, asked, lacks, is)) = lacking_same e asked lacks

  asked_keeps : (r : Result Row Error) → QueriesRow revision_text [] old new r → IsTrue new.is_open → old.committed ≡ old.now → KeepsAll old new
  unfolding QueriesRow
  asked_keeps (Ok row) h still settled = let same = row_same row h in (same.0.now_is, same.0.committed_is)
  asked_keeps (Err e) (inl h) still settled = keeps_failed revision_text [] old new revision_asks e h still settled
  asked_keeps (Err e) (inr h) still settled = keeps_shown revision_text [] old new revision_asks [] h.1

  asked_open : (r : Result Row Error) → QueriesRow revision_text [] old new r → IsTrue new.is_open → IsTrue old.is_open
  unfolding QueriesRow
  asked_open (Ok row) h still = (row_same row h).0.was_open
  asked_open (Err e) (inl h) still = failed_open revision_text [] old new revision_asks e h still
  asked_open (Err e) (inr h) still = (shown_same revision_text [] old new revision_asks [] h.1).0.was_open

  pub revision_reads : {F : Type 0} (r : Result (Option ℕ) F) → (HasCleanDisk new → (answer : Result Row Error) × QueriesRow revision_text [] old new answer) → (HasCleanDisk new → IfOk r (TellsRevision old new))
      → (old.in_transaction ≡ false → new.in_transaction ≡ false) → Survives old new (CommitsShowing revision_text [] old) → OnlyReads old new r
  revision_reads r asked found mode survives = record {
    same = λ clean. on_found r (found clean);
    kept = λ clean still settled. let it = asked clean in asked_keeps it.0 it.1 still settled;
    was_open = λ clean still. let it = asked clean in asked_open it.0 it.1 still;
    clean = λ clean. omega (arith, survives.clean);
    mode = mode;
    survives = survives_quiet revision_text [] old new revision_asks survives;
  }
    where
      on_found : {F : Type 0} (r : Result (Option ℕ) F) → IfOk r (TellsRevision old new) → OnOk r (IsUnchanged old new)
      on_found (Ok found) h = told_same found h
      on_found (Err e) h = tt

-- ---- what compiling leaves

taken_exists : (fault : CompileError) → is_name_taken (SqlInputError fault) ≡ true → fault ≡ Exists
taken_exists Exists h = refl
taken_exists fault h = absurd (true≢false (sym h))

-- an answer of the database itself, and not of its store
abbrev is_with_features : Error → Bool
is_with_features (SqlInputError fault) = true
is_with_features QueryReturnedNoRows = true
is_with_features e = false

store_untold : (cause : StoreError) → is_with_features (store_error cause) ≡ false
store_untold OutOfMemory = refl
store_untold Io = refl
store_untold Corrupt = refl
store_untold Full = refl
store_untold Broken = refl
store_untold Unstorable = refl

pub lacking_told : (e : Error) → is_lacking e ≡ true → is_with_features e ≡ true
lacking_told (SqlInputError fault) h = refl
lacking_told QueryReturnedNoRows h = refl
lacking_told e h = absurd (true≢false (sym h))

pub taken_told : (e : Error) → is_name_taken e ≡ true → is_with_features e ≡ true
taken_told (SqlInputError fault) h = refl
taken_told e h = absurd (true≢false (sym h))

module _ (sql : List ℕ) (old new : State) {X F : Type 0} (r : Result X F) (e : Error) where
  not_run_same : IsNotRun old new sql [] e → is_with_features e ≡ true → IsUnchanged old new
  unfolding IsNotRun
  not_run_same (inl h) told = h.1
  not_run_same (inr h) told = absurd (let stands = store_untold h.0 in let no = rw h.1 at told in cc)

  on_told : (IsOk r → is_with_features e ≡ true) → IsNotRun old new sql [] e → OnOk r (IsUnchanged old new)
  on_told told h = go r told
    where
      go : {X F : Type 0} (r : Result X F) → (IsOk r → is_with_features e ≡ true) → OnOk r (IsUnchanged old new)
      go (Ok x) told = not_run_same h (told refl)
      go (Err f) told = tt

  pub prepare_reads : (HasCleanDisk new → IsNotRun old new sql [] e) → (IsOk r → is_with_features e ≡ true) → (old.in_transaction ≡ false → new.in_transaction ≡ false) → Survives old new (λ _. ⊥) → OnlyReads old new r
  prepare_reads not_run told mode survives = record {
    same = λ clean. on_told told (not_run clean);
    kept = λ clean still settled. keeps_not_run old new sql [] e (not_run clean) still settled;
    was_open = λ clean still. not_run_open old new sql [] e (not_run clean) still;
    clean = λ clean. omega (arith, survives.clean);
    mode = mode;
    survives = survives;
  }

-- a text whose name is taken, or that compiles
pub exists_found : (old new : State) (sql : List ℕ) (e : Error) → IsNotRun old new sql [] e → is_name_taken e ≡ true → Finds (understood old.now.schema sql) true
unfolding IsNotRun
exists_found old new sql e (inl (inl h, same)) taken = subst (λ r. Finds r true) (sym h.1) (taken_exists h.0 (ap is_name_taken (sym h.2) ∙ taken), refl)
exists_found old new sql e (inl (inr (c, known, inl h), same)) taken = absurd (let no = rw h.1 at taken in cc)
exists_found old new sql e (inl (inr (c, known, inr (inl h)), same)) taken = absurd (let no = rw h.1 at taken in cc)
exists_found old new sql e (inl (inr (c, known, inr (inr h)), same)) taken = absurd (let no = rw h.1 at taken in cc)
exists_found old new sql e (inr h) taken = absurd (let told = taken_told e taken in let stands = store_untold h.0 in let no = rw h.1 at told in cc)

-- ---- one question after another
on_ok_then : {X F : Type 0} (P Q : Type 0) (r : Result X F) → (P → Q) → OnOk r P → OnOk r Q
on_ok_then P Q (Ok x) f h = f h
on_ok_then P Q (Err e) f h = tt

pub reads_then : {X Y F G : Type 0} (old mid new : State) (x : X) (r : Result Y G) → OnlyReads {X = X} {F = F} old mid (Ok x) → OnlyReads mid new r → OnlyReads old new r
reads_then old mid new x r first second = record {
  same = λ clean. on_ok_then _ _ r (unchanged_then old mid new (first.same (second.clean clean))) (second.same clean);
  kept = λ clean still settled.
      let same = first.same (second.clean clean) in
      let later = second.kept clean still (same.0.committed_is ∙ settled ∙ sym same.0.now_is) in
      (later.0 ∙ same.0.now_is, later.1 ∙ same.0.committed_is);
  was_open = λ clean still. first.was_open (second.clean clean) (second.was_open clean still);
  clean = λ clean. first.clean (second.clean clean);
  mode = λ outside. second.mode (first.mode outside);
  survives = survives_then old mid new _ _ (λ _. ⊥) (λ _ db none. none) (λ _ db none. none) first.survives second.survives;
}
