-- What the statements that write do.
use Rattle.std.proofs.Common.{◌≡◌, ◌⊎◌, inl, inr, ℕ, pos, ◌+◌, List, [], ◌∷◌, ◌++◌, map, length, append-nil, Bool, true, false, None, Ok, Err, Result, refl, ap, subst, ◌∙◌, arith}
use Rattle.sqlite_value.specs.declared.value.Value.TheVariants.{Null, Int}
use Rattle.sqlite_value.specs.Order.{Row}
use Rattle.sqlite_sql.specs.Term.{eval_all, holds}
use Rattle.sqlite_rules.specs.Calls.{ids_of}
use Rattle.std.specs.List.{AllByRecursion, list_all, enumerate_from}
use Rattle.sqlite_rules.specs.Edit.{edit_of, edited}
use Rattle.sqlite_rules.specs.declared.error.Rowids.TheVariants.{Chosen, Given}
use Rattle.sqlite_schema.specs.declared.command.Source.TheVariants.{Values}
use Rattle.sqlite_schema.specs.declared.command.Command.TheVariants.{Insert, Update}
use Rattle.sqlite_trees.specs.Tree.{Trees}
use Rattle.sqlite.specs.Does.{Tally, Does}
use Rattle.sqlite.specs.Rows.{Written}
use Rattle.sqlite.specs.Effect.{Database}
use Rattle.sqlite.specs.Listing.{understood}
use Rattle.sqlite.specs.State.{State, mode_of, Executes}
use Rattle.sqlite.proofs.Callers.{statement_of, runs_as, one_step}
use Rattle.cad_tables.specs.Texts.{enter_text, close_text}
use Rattle.cad_tables.specs.Tables.{register_schema, version_table}
use Rattle.cad_tables.specs.Holding.{row_of, rows_of, Holds}
use Rattle.cad_tables.specs.VersionRow.{VersionRow, cells_of}
use Rattle.cad_tables.proofs.Queries.{enter_terms, close_query}
use Rattle.cad_tables.proofs.CellLemmas.{cast_null, cast_int, typed}
use Rattle.cad_tables.proofs.Parse.{enter_is, enter_plain, close_is, close_plain}
use Rattle.cad_tables.proofs.Finding.{one_answer, finds}
use Rattle.cad_tables.proofs.Places.{place, next_is, put_last, replaced, one_of}
use Rattle.sqlite_typed.proofs.RowLemmas.{puts-map, deletes-map}
use Rattle.sqlite.specs.Program.{overlay}

-- a part that gave a value did not stop on the way
pub went : {B E R : Type 0} {b : B} {Stops : E → Type 0} → ((stop : E) × Stops stop × (Ok b ≡ Err stop)) ⊎ R → R
went (inl stopped) = absurd (let e = stopped.2 in cc)
went (inr on) = on

pub same_value : {B E : Type 0} {a b : B} → ◌≡◌ {A = Result B E} (Ok a) (Ok b) → a ≡ b
same_value e = cc

pub adds : (old new : State) (n : ℕ) (xs : List VersionRow) (x : VersionRow) (count : ℕ) → Holds n xs old.now → Executes enter_text (cells_of x) old new (Ok count)
    → Holds n (xs ++ x ∷ []) new.now
adds old new n xs x count has h =
    let params = cells_of x in
    let db = old.now.trees in
    let command = Insert 1 (Values enter_terms 20) in
    let w = runs_as enter_text params old new register_schema has.schema command enter_is enter_plain count h in
    let text = statement_of enter_text (understood register_schema enter_text) in
    let done = went (subst (λ s. Does old.step_limit (mode_of old) params (record old.now { schema = s }) text None command (Ok (w.tally, new.now))) has.schema w.changed) in
    let now = ap (λ (p : Tally × Database). p.1) (same_value (went (went done.2).2).2) in
    let given = went done.1 in
    let written = went (went given.2).2 in
    let counted = went written.2 in
    let trees : done.0.trees ≡ written.0 = ap (λ (it : Written). it.trees) (same_value counted.2) ∙ same_value counted.1 in
    let applied = one_step register_schema _ db written.0 (edit_of db version_table [] Chosen 0 given.0) refl written.1 in
    let sources : given.0 ≡ (Null ∷ cells_of x) ∷ [] = given.1.1 ∙ ap (λ (p : Row). eval_all enter_terms (p ∷ []) ∷ []) (append-nil (cells_of x)) ∙ refl in
    let edit : edited db (edit_of db version_table [] Chosen 0 given.0) ≡ rows_of (xs ++ x ∷ []) =
    ap (λ all. edited db (edit_of db version_table [] Chosen 0 all)) sources ∙ rw (has.versions, cast_null, typed x, next_is 1 xs) (put_last xs x) in
    let whole = ap (λ (d : Database). d.trees) now ∙ trees in
    record {
      schema = ap (λ (d : Database). d.schema) now;
      state = ap (λ (t : Trees). t 0) whole ∙ applied.tables.0 (λ e. absurd (omega arith)) ∙ has.state;
      versions = ap (λ (t : Trees). t 1) whole ∙ applied.rows ∙ edit;
    }

pub closes : (old new : State) (n : ℕ) (front back : List VersionRow) (x y : VersionRow) (params : Row) (count : ℕ) → Holds n (front ++ x ∷ back) old.now
    → (test : VersionRow → Bool) → ((line : ℕ × VersionRow) → list_all (holds (params ∷ row_of line ∷ [])) close_query.filter ≡ test line.1)
    → AllByRecursion (λ z. test z ≡ false) front → test x ≡ true → AllByRecursion (λ z. test z ≡ false) back
    → ((k : ℕ) → eval_all close_query.project (params ∷ row_of (k, x) ∷ []) ≡ Int (pos k) ∷ Int (pos k) ∷ cells_of y)
    → Executes close_text params old new (Ok count) → Holds n (front ++ y ∷ back) new.now
closes old new n front back x y params count has test tests before here after shown h =
    let xs = front ++ x ∷ back in
    let k = 1 + length front in
    let db = old.now.trees in
    let command = Update 1 (record { lets = []; body = close_query }) in
    let w = runs_as close_text params old new register_schema has.schema command close_is close_plain count h in
    let text = statement_of close_text (understood register_schema close_text) in
    let done = went (subst (λ s. Does old.step_limit (mode_of old) params (record old.now { schema = s }) text None command (Ok (w.tally, new.now))) has.schema w.changed) in
    let now = ap (λ (p : Tally × Database). p.1) (same_value (went (went done.2).2).2) in
    let found = went done.1 in
    let wrote = went found.2 in
    let trees : done.0.trees ≡ wrote.0 = ap (λ (it : Written). it.trees) (same_value wrote.2) in
    let one = finds (overlay db []) 1 xs has.versions close_query.filter params (λ line. test line.1) tests
    ∙ ap (map (λ (line : ℕ × VersionRow). params ∷ row_of line ∷ [])) (one_of test 1 front back x before here after) in
    let rows : found.0 ≡ (Int (pos k) ∷ Int (pos k) ∷ cells_of y) ∷ [] = one_answer close_query (overlay db []) params (params ∷ row_of (k, x) ∷ []) found.0 refl refl one (found.1.answer Null) ∙ ap (λ (r : Row). r ∷ []) (shown k) in
    let applied = one_step register_schema _ db wrote.0 (edit_of db version_table (ids_of found.0) Given 1 found.0) refl wrote.1 in
    let edit : edited db (edit_of db version_table (ids_of found.0) Given 1 found.0) ≡ rows_of (front ++ y ∷ back) =
    ap (λ all. edited db (edit_of db version_table (ids_of all) Given 1 all)) rows
    ∙ rw (has.versions, cast_int, typed y, deletes-map place (row_of) (λ _. refl) (pos k ∷ []) (enumerate_from 1 xs))
    (puts-map place (row_of) (λ _. refl) ((k, y) ∷ []) _ ∙ ap (map (row_of)) (replaced x y 1 k front back refl)) in
    let whole = ap (λ (d : Database). d.trees) now ∙ trees in
    record {
      schema = ap (λ (d : Database). d.schema) now;
      state = ap (λ (t : Trees). t 0) whole ∙ applied.tables.0 (λ e. absurd (omega arith)) ∙ has.state;
      versions = ap (λ (t : Trees). t 1) whole ∙ applied.rows ∙ edit;
    }
