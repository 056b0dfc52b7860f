-- What the statements are compiled to over the register's schema.
use Rattle.std.specs.Prelude.{[], ◌∷◌, None, false, List, ℕ, pos, negsuc}
use Rattle.sqlite_value.specs.declared.keys.Collation.TheVariants.{Binary}
use Rattle.sqlite_value.specs.Keys.{ascending}
use Rattle.sqlite_value.specs.declared.value.Value.TheVariants.{Null, Int}
use Rattle.sqlite_sql.specs.Term.{Term, lit, col, op2}
use Rattle.sqlite_sql.specs.declared.ops.BinaryOp.TheVariants.{Compare, Is}
use Rattle.sqlite_sql.specs.declared.ops.CompareOp.TheVariants.{Eq, Le, Gt}
use Rattle.sqlite_sql.specs.Query.{Query, inner, end}

abbrev pub enter_terms : List Term
enter_terms = lit Null ∷ col 0 0 ∷ col 0 1 ∷ col 0 2 ∷ col 0 3 ∷ col 0 4 ∷ col 0 5 ∷ col 0 6 ∷ col 0 7 ∷ col 0 8 ∷ col 0 9 ∷ col 0 10 ∷ col 0 11 ∷ col 0 12 ∷ col 0 13 ∷ col 0 14 ∷ col 0 15 ∷ col 0 16 ∷ col 0 17 ∷ col 0 18 ∷ []

abbrev pub begin_terms : List Term
begin_terms = lit (Int (pos 1)) ∷ lit Null ∷ lit (Int (pos 1)) ∷ lit (Int (pos 0)) ∷ []

abbrev pub equals : Term → Term → Term
equals a b = op2 (Compare Eq Binary) a b

abbrev pub select_from : ℕ → List Term → List Term → Query
select_from tree filter project =
    record { from = inner tree end; filter = filter; group = None; project = project; distinct = false; collations = []; order = []; limit = lit (Int (negsuc 0)); offset = lit (Int (pos 0)) }

abbrev pub count_query : Query
count_query = select_from 0 (equals (col 1 0) (lit (Int (pos 1))) ∷ []) (col 1 0 ∷ col 1 0 ∷ lit Null ∷ col 1 2 ∷ col 0 0 ∷ [])

abbrev pub close_query : Query
close_query = select_from 1 (equals (col 1 1) (col 0 0) ∷ op2 (Is Binary) (col 1 5) (lit Null) ∷ [])
    (col 1 0 ∷ col 1 0 ∷ col 1 1 ∷ col 1 2 ∷ col 1 3 ∷ col 1 4 ∷ col 0 1 ∷ col 1 6 ∷ col 0 2 ∷ col 1 8 ∷ col 1 9 ∷ col 1 10 ∷ col 1 11 ∷ col 1 12 ∷ col 1 13 ∷ col 1 14 ∷ col 1 15 ∷ col 1 16 ∷ col 1 17 ∷ col 1 18 ∷ col 1 19 ∷ [])

abbrev pub revision_query : Query
revision_query = select_from 0 (equals (col 1 0) (lit (Int (pos 1))) ∷ []) (col 1 2 ∷ col 1 3 ∷ [])

abbrev pub history_query : Query
history_query = record (select_from 1 (equals (col 1 1) (col 0 0) ∷ []) (col 1 2 ∷ col 1 3 ∷ col 1 4 ∷ col 1 5 ∷ [])) { order = (col 1 2, ascending Binary) ∷ [] }

abbrev pub listing_query : Query
listing_query = select_from 1 (op2 (Compare Le Binary) (col 1 6) (col 0 0) ∷ [])
    (col 1 1 ∷ col 1 2 ∷ col 1 3 ∷ col 1 4 ∷ col 1 5 ∷ col 1 6 ∷ col 1 7 ∷ col 1 8 ∷ col 1 9 ∷ col 1 10 ∷ col 1 11 ∷ col 1 12 ∷ col 1 13 ∷ col 1 14 ∷ col 1 15 ∷ col 1 16 ∷ col 1 17 ∷ col 1 18 ∷ col 1 19 ∷ [])

abbrev pub range_query : Query
range_query = record (select_from 1 (op2 (Compare Gt Binary) (col 1 0) (col 0 0) ∷ op2 (Compare Le Binary) (col 1 0) (col 0 1) ∷ [])
    (col 1 1 ∷ col 1 2 ∷ col 1 3 ∷ col 1 4 ∷ col 1 5 ∷ col 1 6 ∷ col 1 7 ∷ col 1 8 ∷ col 1 9 ∷ col 1 10 ∷ col 1 11 ∷ col 1 12 ∷ col 1 13 ∷ col 1 14 ∷ col 1 15 ∷ col 1 16 ∷ col 1 17 ∷ col 1 18 ∷ col 1 19 ∷ []))
    { order = (col 1 0, ascending Binary) ∷ [] }
