-- What a CREATE TABLE tells of the names in use.
use Rattle.std.proofs.Common.{◌≡◌, inl, inr, ℕ, ◌+◌, List, [], ◌∷◌, ◌++◌, append-nil, codes, Bool, true, false, cond, ◌||◌, Some, None, is_some, Ok, Err, refl, sym, ap, ap₂, subst, ◌∙◌}
use Rattle.std.proofs.lemmas.Bool.{cases_Bool}
use Rattle.std.specs.List.{position_from}
use Rattle.sqlite_ast.specs.declared.CreateTable.{CreateTable}
use Rattle.sqlite_syntax.specs.declared.statement.Parsed.{Parsed}
use Rattle.sqlite_schema.specs.Names.{same_name}
use Rattle.sqlite_schema.specs.declared.schema.Table.{Table}
use Rattle.sqlite_schema.specs.declared.schema.Schema.{Schema}
use Rattle.sqlite_schema.specs.declared.command.Command.TheVariants.{CreateTable as MakeTable}
use Rattle.sqlite_resolve.specs.Compile.{table_defined_by}
use Rattle.sqlite_resolve.specs.Lowering.{Checked}
use Rattle.sqlite_resolve.specs.declared.compiled.Compiled.{Compiled}
use Rattle.sqlite_catalog.specs.Change.{is_used, created, next_tree}
use Rattle.sqlite_tied.specs.Compute.{everything}
use Rattle.sqlite.specs.Effect.{Database}
use Rattle.sqlite.specs.Does.{Tally, lacks_sequence, sequence_text}
use Rattle.sqlite.specs.Listing.{understood}
use Rattle.sqlite.specs.State.{State, Executes, ExecutesIn, Writes, text_of}
use Rattle.sqlite.proofs.Callers.{IsPlain, command_of, statement_of, runs_as}
use Rattle.cad_tables.specs.Tables.{state_table, is_standing}
use Rattle.cad_tables.specs.Texts.{state_text}
use Rattle.cad_tables.proofs.NameLemmas.{Makes, SomeMakes, state_makes, defined, understood_ok, understood_exists, understood_free}
use Rattle.cad_tables.specs.Opening.{Finds}
use Rattle.cad_tables.proofs.Writes.{went, same_value}

-- ---- names through a new table

position_after : {X : Type 0} (p : X → Bool) (n : ℕ) (xs : List X) (y : X) → p y ≡ false → is_some (position_from p n (xs ++ y ∷ [])) ≡ is_some (position_from p n xs)
position_after p n [] y other = rw other
position_after p n (x ∷ xs) y other =
    elim (p x) as (λ b. is_some (cond b (Some n) (position_from p (n + 1) (xs ++ y ∷ []))) ≡ is_some (cond b (Some n) (position_from p (n + 1) xs))) [ true ↦ refl | false ↦ position_after p (n + 1) xs y other ]

used_created : (s : Schema) (t : Table) (name : List ℕ) → same_name t.name name ≡ false → t.uniques ≡ [] → is_used (created s t) name ≡ is_used s name
used_created s t name other bare =
    rw (position_after (λ (t : Table). same_name t.name name) 0 s.tables (record t { tree = next_tree s }) other, bare, append-nil s.indexes)

abbrev name_in : Checked Table → List ℕ
name_in (Ok t) = t.name
name_in (Err e) = []

abbrev uniques_in : Checked Table → List (List ℕ)
uniques_in (Ok t) = t.uniques
uniques_in (Err e) = []

sequence_is : (name_in (table_defined_by sequence_text) ≡ codes "sqlite_sequence") × (uniques_in (table_defined_by sequence_text) ≡ [])
unfolding everything
sequence_is = (refl, refl)

-- a name of neither this table nor of the one that counts rows
pub record IsOther (t : Table) (name : List ℕ) : Type 0 where
  pub table : same_name t.name name ≡ false
  pub sequence : same_name (codes "sqlite_sequence") name ≡ false

module _ (sql : List ℕ) (p : Parsed) (def : CreateTable) (t : Table) (makes : Makes sql p def t) (old new : State) where
  runs : (count : ℕ) → Executes sql [] old new (Ok count) → Writes old new None MakeTable sql [] count
  unfolding ExecutesIn
  runs count h =
      let c = understood_ok sql p def t makes old.now.schema h.0 h.1.is in
      let is : command_of (understood old.now.schema sql) ≡ MakeTable = ap command_of h.1.is ∙ ap (λ (c : Compiled). c.command) c in
      let plain : IsPlain (understood old.now.schema sql) = subst IsPlain (sym h.1.is) (ap (λ (c : Compiled). c.returning) c, ap (λ (c : Compiled). c.formats) c) in
      let whole : statement_of sql (understood old.now.schema sql) ≡ sql = ap (statement_of sql) h.1.is ∙ ap (text_of sql) c ∙ makes.whole in
      subst (λ text. Writes old new None MakeTable text [] count) whole (runs_as sql [] old new old.now.schema refl MakeTable is plain count h)

  -- the name was free, and no other name comes into use
  pub makes_free : (count : ℕ) → Executes sql [] old new (Ok count) → is_used old.now.schema t.name ≡ false
  makes_free count h =
      let w = runs count h in
      let first = went (went w.changed).1 in
      let made = first.1 in
      let both : Ok made.table ≡ Ok t = sym made.defined ∙ defined sql p def t makes in
      let same : made.table ≡ t = cc in
      subst (λ (t : Table). is_used old.now.schema t.name ≡ false) same made.free

  pub makes_other : t.uniques ≡ [] → (count : ℕ) → Executes sql [] old new (Ok count) → (name : List ℕ) → IsOther t name → is_used new.now.schema name ≡ is_used old.now.schema name
  makes_other bare count h name other =
      let w = runs count h in
      let all = went w.changed in
      let first = went all.1 in
      let made = first.1 in
      let both : Ok made.table ≡ Ok t = sym made.defined ∙ defined sql p def t makes in
      let same : made.table ≡ t = cc in
      let schema : first.0.schema ≡ created old.now.schema t = made.is ∙ ap (created old.now.schema) same in
      let now : new.now ≡ all.0 = ap (λ (p : Tally × Database). p.1) (same_value all.2) in
      let after : is_used all.0.schema name ≡ is_used first.0.schema name = elim (cases_Bool (lacks_sequence first.0.schema)) [
        | inl lacks ↦
            let two = rw lacks at first.2 in
            let named = sym (ap name_in two.defined) ∙ sequence_is.0 in
            let bare_too = sym (ap uniques_in two.defined) ∙ sequence_is.1 in
            ap (λ s. is_used s name) two.is ∙ used_created first.0.schema two.table name (ap (λ n. same_name n name) named ∙ other.sequence) bare_too
        | inr plain ↦ ap (λ (d : Database). is_used d.schema name) (same_value (rw plain at first.2))
      ] in
      ap (λ (d : Database). is_used d.schema name) now ∙ after ∙ ap (λ s. is_used s name) schema ∙ used_created old.now.schema t name other.table bare

-- ---- a text that makes a table, over any schema

module _ (sql : List ℕ) (t : Table) (some : SomeMakes sql t) (old new : State) where
  pub free_inside : (count : ℕ) → Executes sql [] old new (Ok count) → is_used old.now.schema t.name ≡ false
  free_inside = makes_free sql some.0 some.1 t some.2 old new

-- after the table `state`
module _ (old new : State) where
  pub others_stay : (count : ℕ) → Executes state_text [] old new (Ok count) → is_used new.now.schema (codes "version") ≡ is_used old.now.schema (codes "version")
  unfolding same_name
  others_stay count h =
      makes_other state_text state_makes.0 state_makes.1 state_table state_makes.2 old new refl count h (codes "version") (record { table = refl; sequence = refl })

-- the name is found in use, or free
pub found_used : (s : Schema) (sql : List ℕ) (t : Table) → SomeMakes sql t → (used : Bool) → Finds (understood s sql) used → used ≡ is_used s t.name
found_used s sql t some used h = go (understood s sql) refl h
  where
    go : (r : Checked Compiled) → understood s sql ≡ r → Finds r used → used ≡ is_used s t.name
    go (Ok c) is h = h ∙ sym (understood_free sql some.0 some.1 t some.2 s c is)
    go (Err fault) is h = h.1 ∙ sym (understood_exists sql some.0 some.1 t some.2 s (is ∙ ap Err h.0))

pub free_by : (s : Schema) → is_used s (codes "state") ≡ false → is_used s (codes "version") ≡ false → is_standing s ≡ false
free_by s no_state no_version = ap₂ (λ a b. a || b) no_state no_version

pub standing_first : (s : Schema) → is_used s (codes "state") ≡ true → is_standing s ≡ true
standing_first s h = ap (λ a. a || is_used s (codes "version")) h

pub standing_second : (s : Schema) → is_used s (codes "state") ≡ false → is_standing s ≡ is_used s (codes "version")
standing_second s h = ap (λ a. a || is_used s (codes "version")) h
