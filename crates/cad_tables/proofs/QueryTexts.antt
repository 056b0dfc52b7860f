-- A text that asks writes nothing, whatever the schema.
use Rattle.std.proofs.Common.{◌≡◌, ℕ, List, Bool, true, false, cond, Option, None, Ok, Err, refl, sym, ap, ◌∙◌, subst, ◌+◌, true≢false}
use Rattle.sqlite_ast.specs.declared.Statement.{Statement}
use Rattle.sqlite_ast.specs.declared.Statement.TheVariants as written
use Rattle.sqlite_schema.specs.declared.schema.Schema.{Schema}
use Rattle.sqlite_schema.specs.declared.command.Command.{Command}
use Rattle.sqlite_schema.specs.declared.command.Returning.{Returning}
use Rattle.sqlite_syntax.specs.declared.statement.Parsed.{Parsed}
use Rattle.sqlite_resolve.specs.declared.compiled.Compiled.{Compiled}
use Rattle.sqlite_resolve.specs.declared.error.CompileError.TheVariants.{NoSuchTable}
use Rattle.sqlite_resolve.specs.Lowering.{Checked, and_then}
use Rattle.sqlite_resolve.specs.Compile.{first, returning, command, meaning, planned, timed, small, with_command, compiled}
use Rattle.sqlite.specs.Listing.{understood, reads_listing, listing_schema, is_select, if_select}
use Rattle.sqlite_tied.specs.Compute.{everything}
use Rattle.cad_tables.specs.Asking.{asks, IsQuery}
use Rattle.cad_tables.specs.Texts.{revision_text, history_text, listing_text, range_text}

pub revision_asks : IsQuery (first revision_text)
unfolding everything
revision_asks = refl

pub history_asks : IsQuery (first history_text)
unfolding everything
history_asks = refl

pub listing_asks : IsQuery (first listing_text)
unfolding everything
listing_asks = refl

pub range_asks : IsQuery (first range_text)
unfolding everything
range_asks = refl

shows_none : (schema : Schema) (base : ℕ) (s : Statement) → asks s ≡ true → returning schema base s ≡ Ok None
unfolding returning
shows_none schema base (written.Select s) h = refl
shows_none schema base s h = absurd (true≢false (sym h))

both : (k : Checked Command) (r : Command × Option Returning) → and_then k (λ c. Ok (c, None)) ≡ Ok r → r.1 ≡ None
both (Ok k) r e = let same : (k, None) ≡ r = cc in ap (λ p. p.1) (sym same)
both (Err k) r e = absurd cc

meant : (schema : Schema) (p : Parsed) (base : ℕ) (r : Command × Option Returning) → asks p.statement ≡ true → meaning schema p base ≡ Ok r → r.1 ≡ None
unfolding meaning
meant schema p base r h e =
    both (command schema p.formats base p.statement) r
    (subst (λ shown. and_then shown (λ s. and_then (command schema p.formats base p.statement) (λ c. Ok (c, s))) ≡ Ok r) (shows_none schema base p.statement h) e)

made : (p : Parsed) (formats : List (List ℕ)) (m : Checked (Command × Option Returning)) (c : Compiled) → ((r : Command × Option Returning) → m ≡ Ok r → r.1 ≡ None) → and_then (and_then m (λ found. Ok (formats, found))) (λ plan. Ok (with_command p plan)) ≡ Ok c → c.returning ≡ None
made p formats (Ok r) c none e = let same : with_command p (formats, r) ≡ c = cc in ap (λ (k : Compiled). k.returning) (sym same) ∙ none r refl
made p formats (Err m) c none e = absurd cc

parsed_query : (schema : Schema) (r : Checked Parsed) (c : Compiled) → IsQuery r → and_then r (λ p. and_then (planned schema p) (λ plan. Ok (with_command p plan))) ≡ Ok c → c.returning ≡ None
unfolding planned
parsed_query schema (Ok p) c h e =
    let formats = timed schema p.formats p.statement in
    let base = small p.names + small formats in
    made p formats (meaning schema p base) c (λ r. meant schema p base r h) e
parsed_query schema (Err f) c h e = absurd h

compiled_query : (schema : Schema) (sql : List ℕ) (c : Compiled) → IsQuery (first sql) → compiled schema sql ≡ Ok c → c.returning ≡ None
unfolding compiled
compiled_query schema sql c h e = parsed_query schema (first sql) c h e

if_one : (b : Bool) (c : Compiled) (r : Checked Compiled) → cond b r (Err NoSuchTable) ≡ Ok c → r ≡ Ok c
if_one true c r e = e
if_one false c r e = absurd cc

selected : (r : Checked Compiled) (c : Compiled) → if_select r ≡ Ok c → r ≡ Ok c
selected (Ok k) c e = if_one (is_select k.command) c (Ok k) e
selected (Err k) c e = absurd cc

pub query_plain : (schema : Schema) (sql : List ℕ) → IsQuery (first sql) → (c : Compiled) → understood schema sql ≡ Ok c → c.returning ≡ None
unfolding understood
query_plain schema sql h c e = go (reads_listing schema sql) e
  where
    go : (b : Bool) → cond b (if_select (compiled listing_schema sql)) (compiled schema sql) ≡ Ok c → c.returning ≡ None
    go true e = compiled_query listing_schema sql c h (selected (compiled listing_schema sql) c e)
    go false e = compiled_query schema sql c h e
