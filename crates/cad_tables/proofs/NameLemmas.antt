-- CREATE TABLE over any schema: which name it finds in use.
use Rattle.std.proofs.Common.{◌≡◌, ◌≢◌, ◌⊎◌, inl, inr, ℕ, List, [], length, Bool, true, false, cond, ◌||◌, ◌&&◌, ◌==◌, not, Option, Some, None, is_some, Ok, Err, refl, sym, ap, ◌∙◌, slice_range}
use Rattle.std.proofs.lemmas.Bool.{cases_Bool}
use Rattle.std.specs.Option.{option_or}
use Rattle.sqlite_ast.specs.declared.CreateTable.{CreateTable}
use Rattle.sqlite_ast.specs.declared.Statement.{Statement}
use Rattle.sqlite_ast.specs.declared.Statement.TheVariants as written
use Rattle.sqlite_syntax.specs.declared.statement.Parsed.{Parsed}
use Rattle.sqlite_schema.specs.Names.{table_named, index_named, view_named}
use Rattle.sqlite_schema.specs.declared.schema.Table.{Table}
use Rattle.sqlite_schema.specs.declared.schema.Schema.{Schema}
use Rattle.sqlite_schema.specs.declared.command.Command.{Command}
use Rattle.sqlite_schema.specs.declared.command.Command.TheVariants.{CreateTable as MakeTable, Nothing}
use Rattle.sqlite_resolve.specs.Lowering.{Checked, and_then}
use Rattle.sqlite_resolve.specs.Define as define
use Rattle.sqlite_resolve.specs.Compile.{first, compiled, planned, meaning, timed, returning, command, create_table, creates, is_attached, is_reserved, with_command, table_defined_by, table_in}
use Rattle.sqlite_resolve.specs.declared.compiled.Compiled.{Compiled}
use Rattle.sqlite_resolve.specs.declared.error.CompileError.{CompileError}
use Rattle.sqlite_resolve.specs.declared.error.CompileError.TheVariants.{NoSuchTable, Exists, Misuse, Unsupported}
use Rattle.sqlite_catalog.specs.Change.{is_used}
use Rattle.sqlite_tied.specs.Compute.{everything}
use Rattle.cad_tables.specs.Tables.{state_table, version_made}
use Rattle.cad_tables.specs.Texts.{state_text, version_text}
use Rattle.sqlite.specs.Listing.{understood, reads_listing, if_select, listing_schema}

-- ---- the parts of a CREATE TABLE, in turn

abbrev outcome : Bool → Checked Bool → Checked Table → (Table → Bool) → Checked Command
outcome attached is_new table fits =
    cond attached (Err Unsupported) (and_then is_new (λ is_new. cond is_new (and_then table (λ t. cond (fits t) (Ok MakeTable) (Err Unsupported))) (Ok Nothing)))

if_fits : (b : Bool) (c : Command) → cond b (Ok MakeTable) (Err Unsupported) ≡ Ok c → c ≡ MakeTable
if_fits true c h = cc
if_fits false c h = absurd cc

outcome_ok : (attached : Bool) (is_new : Checked Bool) (table : Checked Table) (fits : Table → Bool) (c : Command) → is_new ≢ Ok false → outcome attached is_new table fits ≡ Ok c → c ≡ MakeTable
outcome_ok true is_new table fits c never h = absurd cc
outcome_ok false (Err e) table fits c never h = absurd cc
outcome_ok false (Ok false) table fits c never h = absurd (never refl)
outcome_ok false (Ok true) (Err e) fits c never h = absurd cc
outcome_ok false (Ok true) (Ok t) fits c never h = if_fits (fits t) c h

not_fitting : (b : Bool) → cond b (Ok MakeTable) (Err Unsupported) ≢ Err Exists
not_fitting true h = absurd cc
not_fitting false h = absurd cc

outcome_exists : (attached : Bool) (is_new : Checked Bool) (t : Table) (fits : Table → Bool) → outcome attached is_new (Ok t) fits ≡ Err Exists → is_new ≡ Err Exists
outcome_exists true is_new t fits h = absurd cc
outcome_exists false (Err e) t fits h = cc
outcome_exists false (Ok false) t fits h = absurd cc
outcome_exists false (Ok true) t fits h = absurd (not_fitting (fits t) h)

abbrev free : Bool → Bool → Bool → Checked Bool
free reserved same other = cond reserved (Err Misuse) (cond other (Err Exists) (cond same (Err Exists) (Ok true)))

free_always : (reserved same other : Bool) → free reserved same other ≢ Ok false
free_always true same other h = absurd cc
free_always false same true h = absurd cc
free_always false true false h = absurd cc
free_always false false false h = absurd cc

free_exists : (reserved same other : Bool) → free reserved same other ≡ Err Exists → (same ≡ true) ⊎ (other ≡ true)
free_exists true same other h = absurd cc
free_exists false same true h = inr refl
free_exists false true false h = inl refl
free_exists false false false h = absurd cc

outcome_new : (attached : Bool) (is_new : Checked Bool) (table : Checked Table) (fits : Table → Bool) (c : Command) → is_new ≢ Ok false → outcome attached is_new table fits ≡ Ok c → is_new ≡ Ok true
outcome_new true is_new table fits c never h = absurd cc
outcome_new false (Err e) table fits c never h = absurd cc
outcome_new false (Ok false) table fits c never h = absurd (never refl)
outcome_new false (Ok true) table fits c never h = refl

free_new : (reserved same other : Bool) → free reserved same other ≡ Ok true → (same ≡ false) × (other ≡ false)
free_new true same other h = absurd cc
free_new false same true h = absurd cc
free_new false true false h = absurd cc
free_new false false false h = (refl, refl)

abbrev made_of : Parsed → Checked Command → Checked Compiled
made_of p r = and_then (and_then (and_then r (λ c. Ok (c, None))) (λ found. Ok ([], found))) (λ plan. Ok (with_command p plan))

made_ok : (p : Parsed) (r : Checked Command) (c : Compiled) → made_of p r ≡ Ok c → (k : Command) × (r ≡ Ok k) × (c ≡ with_command p ([], (k, None)))
made_ok p (Ok k) c h = (k, refl, cc)
made_ok p (Err e) c h = absurd cc

made_err : (p : Parsed) (r : Checked Command) (e : CompileError) → made_of p r ≡ Err e → r ≡ Err e
made_err p (Ok k) e h = absurd cc
made_err p (Err x) e h = cc

no_select : (r : Checked Compiled) → ((c : Compiled) → r ≡ Ok c → c.command ≡ MakeTable) → if_select r ≡ Err NoSuchTable
no_select (Err e) makes = refl
no_select (Ok c) makes = rw (makes c refl)

by_parts : (a b d : Option ℕ) → (is_some (option_or a d) ≡ true) ⊎ (is_some b ≡ true) → (is_some a || is_some b || is_some d) ≡ true
by_parts (Some x) b d h = refl
by_parts None (Some y) d h = refl
by_parts None None (Some z) h = refl
by_parts None None None (inl h) = absurd cc
by_parts None None None (inr h) = absurd cc

none_by_parts : (a b d : Option ℕ) → is_some (option_or a d) ≡ false → is_some b ≡ false → (is_some a || is_some b || is_some d) ≡ false
none_by_parts (Some x) b d h k = absurd cc
none_by_parts None (Some y) d h k = absurd cc
none_by_parts None None (Some z) h k = absurd cc
none_by_parts None None None h k = refl

-- ---- a text that makes a table

pub record Makes (sql : List ℕ) (p : Parsed) (def : CreateTable) (t : Table) : Type 0 where
  pub read : first sql ≡ Ok p
  pub is : p.statement ≡ written.CreateTable def
  pub always : def.if_missing ≡ false
  pub defines : define.table p.formats def ≡ Ok t
  pub named : t.name ≡ def.name
  pub whole : slice_range sql p.start p.end ≡ sql

module _ (sql : List ℕ) (p : Parsed) (def : CreateTable) (t : Table) (makes : Makes sql p def t) where
  pub defined : table_defined_by sql ≡ Ok t
  unfolding table_defined_by table_in
  defined = rw (makes.read, makes.is) makes.defines

  compiled_is : (s : Schema) → compiled s sql ≡ made_of p (create_table s p.formats def)
  unfolding compiled planned meaning timed returning command
  compiled_is s = rw (makes.read, makes.is)

  abbrev is_new : Schema → Checked Bool
  is_new s = free (is_reserved def.name) (is_some (option_or (table_named s def.name) (view_named s def.name))) (is_some (index_named s def.name))

  create_is : (s : Schema) → (fits : Table → Bool) × (create_table s p.formats def ≡ outcome (is_attached s def.name) (is_new s) (Ok t) fits)
  unfolding create_table creates
  create_is s = (λ t. length t.computed == length t.stamps.places && not def.resolves, rw (makes.defines, makes.always))

  compiled_ok : (s : Schema) (c : Compiled) → compiled s sql ≡ Ok c → c ≡ with_command p ([], (MakeTable, None))
  compiled_ok s c h =
      let made = made_ok p (create_table s p.formats def) c (sym (compiled_is s) ∙ h) in
      let it = create_is s in
      let k = outcome_ok (is_attached s def.name) (is_new s) (Ok t) it.0 made.0 (free_always _ _ _) (sym it.1 ∙ made.1) in
      made.2 ∙ ap (λ k. with_command p ([], (k, None))) k

  compiled_exists : (s : Schema) → compiled s sql ≡ Err Exists → is_used s def.name ≡ true
  compiled_exists s h =
      let it = create_is s in
      let none = outcome_exists (is_attached s def.name) (is_new s) t it.0 (sym it.1 ∙ made_err p (create_table s p.formats def) Exists (sym (compiled_is s) ∙ h)) in
      used s (free_exists _ _ _ none)
    where
      used : (s : Schema) → (is_some (option_or (table_named s def.name) (view_named s def.name)) ≡ true) ⊎ (is_some (index_named s def.name) ≡ true) → is_used s def.name ≡ true
      used s h = by_parts (table_named s def.name) (index_named s def.name) (view_named s def.name) h

  compiled_free : (s : Schema) (c : Compiled) → compiled s sql ≡ Ok c → is_used s def.name ≡ false
  compiled_free s c h =
      let it = create_is s in
      let made = made_ok p (create_table s p.formats def) c (sym (compiled_is s) ∙ h) in
      let none = free_new _ _ _ (outcome_new (is_attached s def.name) (is_new s) (Ok t) it.0 made.0 (free_always _ _ _) (sym it.1 ∙ made.1)) in
      none_by_parts (table_named s def.name) (index_named s def.name) (view_named s def.name) none.0 none.1

  unlisted : (s : Schema) → if_select (compiled listing_schema sql) ≡ Err NoSuchTable
  unlisted s = no_select _ (λ c h. ap (λ (c : Compiled). c.command) (compiled_ok listing_schema c h))

  pub understood_ok : (s : Schema) (c : Compiled) → understood s sql ≡ Ok c → c ≡ with_command p ([], (MakeTable, None))
  unfolding understood
  understood_ok s c h = elim (cases_Bool (reads_listing s sql)) [
    | inl lists ↦ absurd (let e = sym (unlisted s) ∙ rw lists at h in cc)
    | inr plain ↦ compiled_ok s c (rw plain at h)
  ]

  pub understood_exists : (s : Schema) → understood s sql ≡ Err Exists → is_used s t.name ≡ true
  unfolding understood
  understood_exists s h = elim (cases_Bool (reads_listing s sql)) [
    | inl lists ↦ absurd (let e = sym (unlisted s) ∙ rw lists at h in cc)
    | inr plain ↦ rw makes.named (compiled_exists s (rw plain at h))
  ]

  pub understood_free : (s : Schema) (c : Compiled) → understood s sql ≡ Ok c → is_used s t.name ≡ false
  unfolding understood
  understood_free s c h = elim (cases_Bool (reads_listing s sql)) [
    | inl lists ↦ absurd (let e = sym (unlisted s) ∙ rw lists at h in cc)
    | inr plain ↦ rw makes.named (compiled_free s c (rw plain at h))
  ]

-- ---- the texts that make the two tables

abbrev FitsStatement : List ℕ → Table → Parsed → Statement → Type 0
FitsStatement sql t p (written.CreateTable def) = (def.if_missing ≡ false) × (define.table p.formats def ≡ Ok t) × (t.name ≡ def.name) × (slice_range sql p.start p.end ≡ sql)
FitsStatement sql t p _ = ⊥

abbrev FitsText : List ℕ → Table → Checked Parsed → Type 0
FitsText sql t (Ok p) = FitsStatement sql t p p.statement
FitsText sql t (Err e) = ⊥

abbrev pub SomeMakes : List ℕ → Table → Type 0
SomeMakes sql t = (p : Parsed) × (def : CreateTable) × Makes sql p def t

makes_by : (sql : List ℕ) (t : Table) (p : Parsed) (s : Statement) → first sql ≡ Ok p → p.statement ≡ s → FitsStatement sql t p s → SomeMakes sql t
makes_by sql t p (written.CreateTable def) read is fits = (p, def, record { read = read; is = is; always = fits.0; defines = fits.1; named = fits.2; whole = fits.3 })
makes_by sql t p _ read is fits = absurd fits

makes_in : (sql : List ℕ) (t : Table) (r : Checked Parsed) → first sql ≡ r → FitsText sql t r → SomeMakes sql t
makes_in sql t (Ok p) read fits = makes_by sql t p p.statement read refl fits
makes_in sql t (Err e) read fits = absurd fits

state_fits : FitsText state_text state_table (first state_text)
unfolding everything
state_fits = (refl, refl, refl, refl)

version_fits : FitsText version_text (version_made 0) (first version_text)
unfolding everything
version_fits = (refl, refl, refl, refl)

pub state_makes : SomeMakes state_text state_table
state_makes = makes_in state_text state_table (first state_text) refl state_fits

pub version_makes : SomeMakes version_text (version_made 0)
version_makes = makes_in version_text (version_made 0) (first version_text) refl version_fits
