-- The tables of the register, as their CREATE statements make them.
use Rattle.std.specs.Prelude.{true, false, Bool, [], ◌∷◌, Some, None, codes, List, ℕ, pos, ◌||◌}
use Rattle.sqlite_value.specs.declared.keys.Collation.TheVariants.{Binary}
use Rattle.sqlite_value.specs.Keys.{plain}
use Rattle.sqlite_value.specs.declared.value.Value.TheVariants.{Null, Int}
use Rattle.sqlite_sql.specs.Term.{lit, col, op2}
use Rattle.sqlite_sql.specs.declared.ops.BinaryOp.TheVariants.{Compare}
use Rattle.sqlite_sql.specs.declared.ops.CompareOp.TheVariants.{Eq}
use Rattle.sqlite_schema.specs.declared.schema.Column.{Column}
use Rattle.sqlite_schema.specs.declared.schema.Table.{Table}
use Rattle.sqlite_schema.specs.declared.schema.Index.{Index}
use Rattle.sqlite_schema.specs.declared.schema.Schema.{Schema}
use Rattle.sqlite_catalog.specs.Change.{is_used}
use Rattle.sqlite_schema.specs.declared.schema.Kind.{Kind}
use Rattle.sqlite_schema.specs.declared.schema.Kind.TheVariants.{Integer, Text, Blob}

-- SQLite, STRICT Tables: a column that takes only values of its own type
abbrev pub strict : List ℕ → Kind → Bool → Column
strict name kind not_null = record { name = name; kind = kind; is_strict = true; not_null = not_null; default = Null; collation = Binary }

abbrev pub state_table : Table
state_table = record {
  name = codes "state";
  tree = 0;
  columns = strict (codes "one") Integer false ∷ strict (codes "format") Integer true ∷ strict (codes "revision") Integer true ∷ [];
  key = Some 0;
  primary = 0 ∷ [];
  uniques = [];
  orders = [];
  checks = op2 (Compare Eq Binary) (col 1 0) (lit (Int (pos 1))) ∷ [];
  references = [];
  computed = [];
  stamps = record { places = []; terms = []; formats = [] };
  is_counted = false;
}

abbrev pub version_made : ℕ → Table
version_made tree = record {
  name = codes "version";
  tree = tree;
  columns = strict (codes "object") Integer true ∷ strict (codes "number") Integer true ∷ strict (codes "class") Integer true
      ∷ strict (codes "first") Integer true ∷ strict (codes "last") Integer false ∷ strict (codes "entered") Integer true ∷ strict (codes "closed") Integer false
      ∷ strict (codes "name") Text false ∷ strict (codes "code") Text false ∷ strict (codes "label") Text false
      ∷ strict (codes "area") Integer false ∷ strict (codes "unit") Integer false ∷ strict (codes "party") Integer false
      ∷ strict (codes "share_num") Integer false ∷ strict (codes "share_den") Integer false ∷ strict (codes "required") Integer false
      ∷ strict (codes "spot_x") Integer false ∷ strict (codes "spot_y") Integer false ∷ strict (codes "shape") Blob false ∷ [];
  key = None;
  primary = 1 ∷ 2 ∷ [];
  uniques = (1 ∷ 2 ∷ []) ∷ [];
  orders = plain ∷ [];
  checks = [];
  references = [];
  computed = [];
  stamps = record { places = []; terms = []; formats = [] };
  is_counted = false;
}

abbrev pub version_table : Table
version_table = version_made 1

abbrev pub version_key : Index
version_key = record { name = codes "sqlite_autoindex_version_1"; tree = 2; table = 1; columns = 1 ∷ 2 ∷ []; order = plain; is_unique = true }

abbrev pub no_schema : Schema
no_schema = record { tables = []; indexes = []; views = [] }

abbrev pub state_schema : Schema
state_schema = record { tables = state_table ∷ []; indexes = []; views = [] }

abbrev pub register_schema : Schema
register_schema = record { tables = state_table ∷ version_table ∷ []; indexes = version_key ∷ []; views = [] }

-- SQLite, CREATE TABLE: a table, an index or a view has one of the two names
abbrev pub is_standing : Schema → Bool
is_standing schema = is_used schema (codes "state") || is_used schema (codes "version")
