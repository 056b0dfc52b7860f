-- A list of objects is that of only one schema, if it lists no view.
use Rattle.std.proofs.Common.{◌≡◌, ℕ, ◌+◌, pos, true, false, List, [], ◌∷◌, Option, Some, slice_get, filter, Result, Ok, refl, sym, ap, ap₂, ◌∙◌, subst, arith}
use Rattle.std.specs.List.{AllZip}
use Rattle.sqlite_value.specs.declared.value.Value.{Value}
use Rattle.sqlite_value.specs.declared.value.Value.TheVariants.{Null, Int, Real, Text, Blob}
use Rattle.sqlite_value.specs.Order.{Row, column}
use Rattle.sqlite_trees.specs.Tree.{Trees, rowid, IsAscending}
use Rattle.sqlite_trees.specs.Objects.{catalog_tree}
use Rattle.sqlite_schema.specs.Names.{same_name}
use Rattle.sqlite_schema.specs.declared.schema.Table.{Table}
use Rattle.sqlite_schema.specs.declared.schema.Index.{Index}
use Rattle.sqlite_schema.specs.declared.schema.Schema.{Schema}
use Rattle.sqlite_resolve.specs.Compile.{table_defined_by, index_defined_by}
use Rattle.sqlite_catalog.specs.Listing.{is_table_row, is_index_row, is_view_row, IsTableRow, IsIndexRow, IsViewRow, IsDefined, automatic, AreListed, IsSound}
use Rattle.sqlite_catalog.proofs.StepLemmas.{same_itself, named_once}
use Rattle.sqlite_catalog.proofs.AlterLemmas.{numbers_differ}
use Rattle.sqlite_resolve.specs.declared.error.CompileError.TheVariants.{NoSuchTable}
use Rattle.sqlite.specs.Listing.{understood, listing_schema}
use Rattle.sqlite.proofs.ListingLemmas.{empty_is_sound}
use Rattle.sqlite_tied.specs.Compute.{everything}
use Rattle.cad_tables.specs.Opening.{LacksColumns}
use Rattle.cad_tables.specs.Tables.{register_schema, no_schema}

zip_same : {A B : Type 0} (R : A → B → Type 0) → ((a : A) (x y : B) → R a x → R a y → x ≡ y) → (rows : List A) (xs ys : List B) → AllZip R rows xs → AllZip R rows ys → xs ≡ ys
zip_same R one [] [] [] p q = refl
zip_same R one [] [] (y ∷ ys) p q = absurd q
zip_same R one [] (x ∷ xs) ys p q = absurd p
zip_same R one (a ∷ rows) [] ys p q = absurd p
zip_same R one (a ∷ rows) (x ∷ xs) [] p q = absurd q
zip_same R one (a ∷ rows) (x ∷ xs) (y ∷ ys) p q = ap₂ ◌∷◌ (one a x y p.0 q.0) (zip_same R one rows xs ys p.1 q.1)

zip_none : {A B : Type 0} (R : A → B → Type 0) (rows : List A) (ys : List B) → AllZip R rows [] → AllZip R rows ys → ys ≡ []
zip_none R [] [] p q = refl
zip_none R [] (y ∷ ys) p q = absurd q
zip_none R (a ∷ rows) ys p q = absurd p

made_same : {X E : Type 0} (r : Result X E) (a b : X) → r ≡ Ok a → r ≡ Ok b → a ≡ b
made_same r a b p q = cc

some_same : {X : Type 0} (o : Option X) (a b : X) → o ≡ Some a → o ≡ Some b → a ≡ b
some_same o a b p q = cc

text_same : (v : Value) (a b : List ℕ) → v ≡ Text a → v ≡ Text b → a ≡ b
text_same v a b p q = cc

tree_same : (v : Value) (m n : ℕ) → v ≡ Int (pos (m + 1)) → v ≡ Int (pos (n + 1)) → m ≡ n
tree_same v m n p q = let next : m + 1 ≡ n + 1 = cc in omega (arith, next)

table_same : (row : Row) (t s : Table) → IsTableRow row t → IsTableRow row s → t ≡ s
table_same row t s p q =
    let tree = tree_same (rowid row) t.tree s.tree p.described.id q.described.id in
    let sql = text_same (column row 4) p.sql q.sql p.sql_is q.sql_is in
    let made = made_same (table_defined_by q.sql) p.defined.0 q.defined.0 (subst (λ text. table_defined_by text ≡ Ok p.defined.0) sql p.defined.1) q.defined.1 in
    p.defined.2 ∙ ap₂ (λ (m : Table) (n : ℕ). record m { tree = n }) made tree ∙ sym q.defined.2

defined_same : (table : Table) (v : Value) (i j : Index) → i.tree ≡ j.tree → i.name ≡ j.name → IsDefined table i v → IsDefined table j v → i ≡ j
defined_same table Null i j tree name p q =
    let named : (automatic table p.0 [] 0).name ≡ (automatic table q.0 [] 0).name = sym (ap (λ (x : Index). x.name) p.3) ∙ name ∙ ap (λ (x : Index). x.name) q.3 in
    let at = numbers_differ table p.0 q.0 p.4 q.4 (subst (λ n. same_name (automatic table p.0 [] 0).name n ≡ true) named (same_itself (automatic table p.0 [] 0).name)) in
    let found = subst (λ n. slice_get table.uniques n ≡ Some p.1) at p.2 in
    let key : p.1 ≡ q.1 = some_same (slice_get table.uniques q.0) p.1 q.1 found q.2 in
    p.3 ∙ (λ k. automatic table (at k) (key k) (tree k)) ∙ sym q.3
defined_same table (Int n) i j tree name p q = absurd p
defined_same table (Real x) i j tree name p q = absurd p
defined_same table (Text sql) i j tree name p q =
    let made = made_same (index_defined_by table sql) p.0 q.0 p.1 q.1 in
    p.2 ∙ ap₂ (λ (m : Index) (n : ℕ). record m { tree = n; table = table.tree }) made tree ∙ sym q.2
defined_same table (Blob b) i j tree name p q = absurd p

index_same : (tables : List Table) → IsAscending (λ s t. same_name s.name t.name ≡ false) tables → (row : Row) (i j : Index) → IsIndexRow tables row i → IsIndexRow tables row j → i ≡ j
index_same tables apart row i j p q =
    let tree = tree_same (rowid row) i.tree j.tree p.described.id q.described.id in
    let name = text_same (column row 2) i.name j.name p.described.name_is q.described.name_is in
    let owner = text_same (column row 3) p.table.name q.table.name p.described.owner_is q.described.owner_is in
    let table = named_once tables p.table q.table apart p.listed q.listed (subst (λ n. same_name p.table.name n ≡ true) owner (same_itself p.table.name)) in
    defined_same p.table (column row 4) i j tree name p.defined (subst (λ t. IsDefined t j (column row 4)) (sym table) q.defined)

schema_same : (rows : List Row) (a b : Schema) → a.views ≡ [] → AreListed rows a → AreListed rows b → b ≡ a
schema_same rows a b none p q =
    let tables = zip_same IsTableRow table_same (filter is_table_row rows) b.tables a.tables q.tables p.tables in
    let indexes = zip_same (IsIndexRow a.tables) (index_same a.tables p.named) (filter is_index_row rows) b.indexes a.indexes (subst (λ ts. AllZip (IsIndexRow ts) (filter is_index_row rows) b.indexes) tables q.indexes) p.indexes in
    let views = zip_none IsViewRow (filter is_view_row rows) b.views (subst (AllZip IsViewRow (filter is_view_row rows)) none p.views) q.views ∙ sym none in
    λ i. record { tables = tables i; indexes = indexes i; views = views i }

-- trees that list the register's schema list no other
pub register_schema_only : (db : Trees) (schema : Schema) → IsSound register_schema db → IsSound schema db → schema ≡ register_schema
register_schema_only db schema p q = schema_same (db catalog_tree) register_schema schema refl p.lists.listed q.lists.listed

-- trees whose catalog is empty list none
pub no_schema_only : (db : Trees) (schema : Schema) → db catalog_tree ≡ [] → IsSound schema db → schema ≡ no_schema
no_schema_only db schema none q = schema_same (db catalog_tree) no_schema schema refl (empty_is_sound db none).lists.listed q.lists.listed

-- without a table there is no column of `version`
pub no_schema_lacks : LacksColumns no_schema
unfolding understood listing_schema everything
no_schema_lacks = (NoSuchTable, refl, refl)
