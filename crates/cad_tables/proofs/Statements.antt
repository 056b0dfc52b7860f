-- What each of the other statements does.
use Rattle.std.proofs.Common.{◌≡◌, ℕ, pos, ◌-◌, List, [], ◌∷◌, map, take, drop, false, None, Ok, refl, sym, ap, ap₂, subst, ◌∙◌, arith, int_eq, int_le}
use Rattle.std.specs.List.{AllByRecursion}
use Rattle.std.specs.List.Sorted.{IsPermutation}
use Rattle.sqlite_value.specs.declared.value.Value.TheVariants.{Null, Int}
use Rattle.sqlite_value.specs.Order.{Row}
use Rattle.sqlite_value.proofs.OrderLemmas.{value_cmp-Int}
use Rattle.sqlite_trees.specs.Tree.{Trees}
use Rattle.sqlite_sql.specs.Query.{matches}
use Rattle.sqlite_sql.specs.declared.ops.CompareOp.TheVariants.{Eq, Le, Gt}
use Rattle.sqlite_rules.specs.Edit.{edit_of, edited}
use Rattle.sqlite_rules.specs.Calls.{ids_of}
use Rattle.sqlite_rules.specs.declared.error.Rowids.TheVariants.{Chosen, Given}
use Rattle.sqlite_typed.proofs.TestLemmas.{at_ints, then_term, last_term, last_key}
use Rattle.sqlite_schema.specs.declared.command.Command.TheVariants.{Insert, Update, CreateTable}
use Rattle.sqlite_schema.specs.declared.command.Source.TheVariants.{Values}
use Rattle.sqlite_schema.specs.declared.schema.Schema.{Schema}
use Rattle.sqlite.specs.Change.{created, next_tree}
use Rattle.sqlite.specs.Does.{Tally, Does, lacks_sequence}
use Rattle.sqlite.specs.Rows.{Written}
use Rattle.sqlite.specs.Program.{overlay}
use Rattle.sqlite.specs.Effect.{Database, IsDatabase}
use Rattle.sqlite.specs.Listing.{understood}
use Rattle.sqlite.specs.State.{State, mode_of, Executes, Shown, QueriesRow, Writes}
use Rattle.sqlite.proofs.Callers.{statement_of, runs_as, reads_as, first_as, one_step}
use Rattle.cad_tables.specs.Texts.{state_text, version_text, begin_text, count_text, listing_text, range_text, history_text, revision_text}
use Rattle.cad_tables.specs.Tables.{no_schema, state_schema, register_schema, version_made, state_table}
use Rattle.cad_tables.specs.Holding.{state_row, Holds}
use Rattle.cad_tables.specs.VersionRow.{VersionRow, cells_of}
use Rattle.cad_tables.proofs.Queries.{begin_terms, count_query, listing_query, range_query, history_query, revision_query}
use Rattle.cad_tables.proofs.Parse.{register_schema_is, state_is, state_plain, version_is, version_plain, begin_is, begin_plain, count_is, count_plain, listing_is, listing_plain, range_is, range_plain, history_is, history_plain, revision_is, revision_plain}
use Rattle.cad_tables.proofs.Finding.{one_answer, in_order, in_any_order, in_place}
use Rattle.cad_tables.proofs.Writes.{went, same_value}
use Rattle.cad_tables.proofs.CellLemmas.{cast_null, cast_int}
use Rattle.cad_tables.specs.Listing.{HaveNoTies, number_order, lines_at, lines_between, lines_of_object, history, outline_of}
use Rattle.cad_tables.proofs.Places.{is_between, lines_there}

pub counts : (old new : State) (n m : ℕ) (xs : List VersionRow) (count : ℕ) → Holds n xs old.now → Executes count_text (Int (pos m) ∷ []) old new (Ok count) → Holds m xs new.now
counts old new n m xs count has h =
    let params = Int (pos m) ∷ [] in
    let db = old.now.trees in
    let command = Update 0 (record { lets = []; body = count_query }) in
    let w = runs_as count_text params old new register_schema has.schema command count_is count_plain count h in
    let text = statement_of count_text (understood register_schema count_text) in
    let done = went (subst (λ s. Does old.step_limit (mode_of old) params (record old.now { schema = s }) text None command (Ok (w.tally, new.now))) has.schema w.changed) in
    let now = ap (λ (p : Tally × Database). p.1) (same_value (went (went done.2).2).2) in
    let found = went done.1 in
    let wrote = went found.2 in
    let trees : done.0.trees ≡ wrote.0 = ap (λ (it : Written). it.trees) (same_value wrote.2) in
    let one : matches (overlay db []) count_query.filter count_query.from (params ∷ []) ≡ (params ∷ state_row n ∷ []) ∷ [] = rw (has.state, at_ints false Eq (pos 1) (pos 1)) in
    let rows : found.0 ≡ (Int (pos 1) ∷ Int (pos 1) ∷ Null ∷ Int (pos 1) ∷ Int (pos m) ∷ []) ∷ [] = one_answer count_query (overlay db []) params (params ∷ state_row n ∷ []) found.0 refl refl one (found.1.answer Null) in
    let applied = one_step register_schema _ db wrote.0 (edit_of db state_table (ids_of found.0) Given 1 found.0) refl wrote.1 in
    let edit : edited db (edit_of db state_table (ids_of found.0) Given 1 found.0) ≡ state_row m ∷ [] =
    ap (λ all. edited db (edit_of db state_table (ids_of all) Given 1 all)) rows ∙ rw (has.state, cast_int, cast_null, cast_int, value_cmp-Int) in
    let whole = ap (λ (d : Database). d.trees) now ∙ trees in
    record {
      schema = ap (λ (d : Database). d.schema) now;
      state = ap (λ (t : Trees). t 0) whole ∙ applied.rows ∙ edit;
      versions = ap (λ (t : Trees). t 1) whole ∙ applied.tables.1.0 (λ e. absurd (omega arith)) ∙ has.versions;
    }

-- what it leaves is sound
pub counts_sound : (old new : State) (n m : ℕ) (xs : List VersionRow) (count : ℕ) → Holds n xs old.now → Executes count_text (Int (pos m) ∷ []) old new (Ok count) → IsDatabase new.now
counts_sound old new n m xs count has h =
    let command = Update 0 (record { lets = []; body = count_query }) in
    (runs_as count_text (Int (pos m) ∷ []) old new register_schema has.schema command count_is count_plain count h).sound

pub reads_revision : (old new : State) (n : ℕ) (xs : List VersionRow) (row : Row) → Holds n xs old.now → QueriesRow revision_text [] old new (Ok row) → row ≡ Int (pos 1) ∷ Int (pos n) ∷ []
reads_revision old new n xs row has h =
    let got = (first_as revision_text [] old new register_schema has.schema _ revision_is.0 revision_plain revision_is.1 row h).1 in
    let one : matches (overlay old.now.trees []) revision_query.filter revision_query.from ([] ∷ []) ≡ ([] ∷ state_row n ∷ []) ∷ [] = rw (has.state, at_ints false Eq (pos 1) (pos 1)) in
    let rows = one_answer revision_query (overlay old.now.trees []) [] ([] ∷ state_row n ∷ []) (row ∷ got.0) refl refl one (got.1 Null) in
    cc

pub shows_revision : (old new : State) (n : ℕ) (xs : List VersionRow) (rows : List Row) → Holds n xs old.now → Shown revision_text [] old new rows → rows ≡ (Int (pos 1) ∷ Int (pos n) ∷ []) ∷ []
shows_revision old new n xs rows has h =
    let read = reads_as revision_text [] old new register_schema has.schema _ revision_is.0 revision_plain revision_is.1 rows h in
    let one : matches (overlay old.now.trees []) revision_query.filter revision_query.from ([] ∷ []) ≡ ([] ∷ state_row n ∷ []) ∷ [] = rw (has.state, at_ints false Eq (pos 1) (pos 1)) in
    one_answer revision_query (overlay old.now.trees []) [] ([] ∷ state_row n ∷ []) rows refl refl one (read.answer Null)

-- ---- the lines of one object, and all lines
pub lists : (old new : State) (n r : ℕ) (xs : List VersionRow) (rows : List Row) → Holds n xs old.now → Shown listing_text (Int (pos r) ∷ []) old new rows → IsPermutation (map cells_of (lines_at r xs)) rows
lists old new n r xs rows has h =
    let params = Int (pos r) ∷ [] in
    let read = reads_as listing_text params old new register_schema has.schema _ listing_is.0 listing_plain listing_is.1 rows h in
    let it = in_any_order (overlay old.now.trees []) 1 xs has.versions listing_query refl refl refl params (λ x. int_le (pos x.entered) (pos r))
    (λ line. last_term (at_ints false Le (pos line.1.entered) (pos r))) cells_of (λ a. refl) rows (read.answer Null) in
    subst (IsPermutation (map cells_of (lines_at r xs))) (sym it.2) it.1

pub ranges : (old new : State) (n b u : ℕ) (xs : List VersionRow) (rows : List Row) → Holds n xs old.now → Shown range_text (Int (pos b) ∷ Int (pos u) ∷ []) old new rows → rows ≡ map cells_of (lines_between b u xs)
ranges old new n b u xs rows has h =
    let params = Int (pos b) ∷ Int (pos u) ∷ [] in
    let count : (u - 0) - (b - 0) ≡ u - b = omega arith in
    let skipped : b - 0 ≡ b = omega arith in
    let from_the_first : take ((u - 0) - (b - 0)) (drop (b - 0) xs) ≡ lines_between b u xs = ap₂ (λ k m. take k (drop m xs)) count skipped in
    let read = reads_as range_text params old new register_schema has.schema _ range_is.0 range_plain range_is.1 rows h in
    in_place (overlay old.now.trees []) 1 xs has.versions range_query refl refl refl params (is_between b u)
    (λ line. then_term (at_ints false Gt (pos line.0) (pos b)) (last_term (at_ints false Le (pos line.0) (pos u))))
    (λ x y. last_key (value_cmp-Int _ _))
    cells_of (λ a. refl) rows (read.answer Null) ∙ ap (map cells_of) (lines_there b u 0 xs ∙ from_the_first)

pub outlines : (old new : State) (n o : ℕ) (xs : List VersionRow) (rows : List Row) → Holds n xs old.now → HaveNoTies number_order (lines_of_object o xs)
    → Shown history_text (Int (pos o) ∷ []) old new rows → rows ≡ map outline_of (history o xs)
outlines old new n o xs rows has apart h =
    let params = Int (pos o) ∷ [] in
    let read = reads_as history_text params old new register_schema has.schema _ history_is.0 history_plain history_is.1 rows h in
    in_order (overlay old.now.trees []) 1 xs has.versions history_query refl refl refl params (λ x. int_eq (pos x.object) (pos o))
    (λ line. last_term (at_ints false Eq (pos line.1.object) (pos o)))
    number_order (λ a b. last_key (value_cmp-Int _ _))
    outline_of (λ a. refl) rows apart (read.answer Null)

-- ---- making the tables
pub makes_state : (old new : State) (count : ℕ) → old.now.schema ≡ no_schema → Executes state_text [] old new (Ok count) → (new.now.schema ≡ state_schema) × (new.now.trees 0 ≡ [])
makes_state old new count has h =
    let w = subst (λ t. Writes old new None CreateTable t [] count) state_is.1 (runs_as state_text [] old new no_schema has CreateTable state_is.0 state_plain count h) in
    let all = went w.changed in
    let first = went all.1 in
    let made = first.1 in
    let both : Ok made.table ≡ Ok state_table = sym made.defined ∙ state_is.2 in
    let same : made.table ≡ state_table = cc in
    let schema : first.0.schema ≡ state_schema = made.is ∙ ap (λ s. created s made.table) has ∙ ap (created no_schema) same in
    let plain : lacks_sequence first.0.schema ≡ false = ap lacks_sequence schema in
    let now : new.now ≡ first.0 = ap (λ (p : Tally × Database). p.1) (same_value all.2) ∙ same_value (rw plain at first.2) in
    (ap (λ (d : Database). d.schema) now ∙ schema, ap (λ (d : Database). d.trees 0) now ∙ subst (λ s. first.0.trees (next_tree s) ≡ []) has made.empty)

pub makes_version : (old new : State) (count : ℕ) → old.now.schema ≡ state_schema → old.now.trees 0 ≡ [] → Executes version_text [] old new (Ok count)
    → (new.now.schema ≡ register_schema) × (new.now.trees 0 ≡ []) × (new.now.trees 1 ≡ [])
makes_version old new count has none h =
    let w = subst (λ t. Writes old new None CreateTable t [] count) version_is.1 (runs_as version_text [] old new state_schema has CreateTable version_is.0 version_plain count h) in
    let all = went w.changed in
    let first = went all.1 in
    let made = first.1 in
    let both : Ok made.table ≡ Ok (version_made 0) = sym made.defined ∙ version_is.2 in
    let same : made.table ≡ version_made 0 = cc in
    let schema : first.0.schema ≡ register_schema = made.is ∙ ap (λ s. created s made.table) has ∙ ap (created state_schema) same ∙ register_schema_is in
    let plain : lacks_sequence first.0.schema ≡ false = ap lacks_sequence schema in
    let now : new.now ≡ first.0 = ap (λ (p : Tally × Database). p.1) (same_value all.2) ∙ same_value (rw plain at first.2) in
    let kept = subst (λ (s : Schema). AllByRecursion (λ t. first.0.trees t.tree ≡ old.now.trees t.tree) s.tables) has made.others in
    (ap (λ (d : Database). d.schema) now ∙ schema, ap (λ (d : Database). d.trees 0) now ∙ kept.0 ∙ none, ap (λ (d : Database). d.trees 1) now ∙ subst (λ s. first.0.trees (next_tree s) ≡ []) has made.empty)

pub begins : (old new : State) (count : ℕ) → old.now.schema ≡ register_schema → old.now.trees 0 ≡ [] → old.now.trees 1 ≡ [] → Executes begin_text [] old new (Ok count)
    → Holds 0 [] new.now
begins old new count has none no_version h =
    let db = old.now.trees in
    let command = Insert 0 (Values begin_terms 4) in
    let w = runs_as begin_text [] old new register_schema has command begin_is begin_plain count h in
    let text = statement_of begin_text (understood register_schema begin_text) in
    let done = went (subst (λ s. Does old.step_limit (mode_of old) [] (record old.now { schema = s }) text None command (Ok (w.tally, new.now))) has w.changed) in
    let now = ap (λ (p : Tally × Database). p.1) (same_value (went (went done.2).2).2) in
    let given = went done.1 in
    let written = went (went given.2).2 in
    let counted = went written.2 in
    let trees : done.0.trees ≡ written.0 = ap (λ (it : Written). it.trees) (same_value counted.2) ∙ same_value counted.1 in
    let applied = one_step register_schema _ db written.0 (edit_of db state_table [] Chosen 0 given.0) refl written.1 in
    let edit : edited db (edit_of db state_table [] Chosen 0 given.0) ≡ state_row 0 ∷ [] = ap (λ all. edited db (edit_of db state_table [] Chosen 0 all)) given.1.1 ∙ rw (none, cast_int, cast_null, cast_int) in
    let whole = ap (λ (d : Database). d.trees) now ∙ trees in
    record {
      schema = ap (λ (d : Database). d.schema) now;
      state = ap (λ (t : Trees). t 0) whole ∙ applied.rows ∙ edit;
      versions = ap (λ (t : Trees). t 1) whole ∙ applied.tables.1.0 (λ e. absurd (omega arith)) ∙ no_version;
    }

pub begins_sound : (old new : State) (count : ℕ) → old.now.schema ≡ register_schema → Executes begin_text [] old new (Ok count) → IsDatabase new.now
begins_sound old new count has h = (runs_as begin_text [] old new register_schema has (Insert 0 (Values begin_terms 4)) begin_is begin_plain count h).sound
