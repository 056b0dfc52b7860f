-- How names and keywords are spelled.
use Rattle.std.specs.Prelude.{ℕ, Bool, true, false, ◌==◌, ◌||◌, Option, Some, None, List, [], ◌∷◌, codes, if◌then◌else◌}
use Rattle.std.specs.Char.{is_ascii_alphabetic, is_ascii_alphanumeric}
use Rattle.std.specs.Str.{byte, str_eq_ignore_ascii_case}
use Rattle.cad_day.specs.declared.relation.Relation.TheVariants as day
use Rattle.cql_lexer.specs.Mark.{Sort, word, name}
use Rattle.cql_lexer.specs.Tables.{entry_of}
use Rattle.cql_lexer.specs.declared.token.Keyword.{Keyword}
use Rattle.cql_lexer.specs.declared.token.Keyword.TheVariants.{And, Or, Not, Like, Between, In, Is, Null, True, False, Div, Casei, Date, Interval, Point, Polygon, Bbox, Spatial, Temporal}
use Rattle.cql_lexer.specs.declared.token.SpatialRelation.TheVariants as space

-- `identifierStart` of CQL2's grammar (OGC 21-065r2, Annex B), of ASCII alone (own profile)
abbrev pub is_name_start : ℕ → Bool
is_name_start x = is_ascii_alphabetic x || (x == byte "_") || (x == byte ":")

-- `identifierPart` of CQL2's grammar (OGC 21-065r2, Annex B), of ASCII alone (own profile)
abbrev pub is_name_part : ℕ → Bool
is_name_part x = is_ascii_alphanumeric x || (x == byte "_") || (x == byte ".") || (x == byte ":")

-- the characters that may be between the quotes of a quoted name: every character but `"` (own profile)
abbrev pub is_unquoted : ℕ → Bool
is_unquoted x = if x == byte "\"" then false else true

-- the keywords of CQL2 text (OGC 21-065r2, Annex B)
abbrev pub keywords : List (List ℕ × Keyword)
keywords =
    (codes "AND", And)
    ∷ (codes "OR", Or)
    ∷ (codes "NOT", Not)
    ∷ (codes "LIKE", Like)
    ∷ (codes "BETWEEN", Between)
    ∷ (codes "IN", In)
    ∷ (codes "IS", Is)
    ∷ (codes "NULL", Null)
    ∷ (codes "TRUE", True)
    ∷ (codes "FALSE", False)
    ∷ (codes "DIV", Div)
    ∷ (codes "CASEI", Casei)
    ∷ (codes "DATE", Date)
    ∷ (codes "INTERVAL", Interval)
    ∷ (codes "POINT", Point)
    ∷ (codes "POLYGON", Polygon)
    ∷ (codes "BBOX", Bbox)
    ∷ (codes "S_INTERSECTS", Spatial space.Intersects)
    ∷ (codes "S_DISJOINT", Spatial space.Disjoint)
    ∷ (codes "S_WITHIN", Spatial space.Within)
    ∷ (codes "S_CONTAINS", Spatial space.Contains)
    ∷ (codes "T_AFTER", Temporal day.After)
    ∷ (codes "T_BEFORE", Temporal day.Before)
    ∷ (codes "T_DISJOINT", Temporal day.Disjoint)
    ∷ (codes "T_INTERSECTS", Temporal day.Intersects)
    ∷ (codes "T_EQUALS", Temporal day.Equals)
    ∷ (codes "T_CONTAINS", Temporal day.Contains)
    ∷ (codes "T_DURING", Temporal day.During)
    ∷ (codes "T_MEETS", Temporal day.Meets)
    ∷ (codes "T_METBY", Temporal day.MetBy)
    ∷ (codes "T_STARTS", Temporal day.Starts)
    ∷ (codes "T_STARTEDBY", Temporal day.StartedBy)
    ∷ (codes "T_FINISHES", Temporal day.Finishes)
    ∷ (codes "T_FINISHEDBY", Temporal day.FinishedBy)
    ∷ (codes "T_OVERLAPS", Temporal day.Overlaps)
    ∷ (codes "T_OVERLAPPEDBY", Temporal day.OverlappedBy)
    ∷ []

-- the keyword that a bare name is, in any ASCII case
unfoldable pub keyword_of : List ℕ → Option Keyword
keyword_of spelling = entry_of str_eq_ignore_ascii_case keywords spelling

-- a keyword, or else a name with its spelling
abbrev pub word_or_name : List ℕ → Option Keyword → Sort
word_or_name spelling (Some k) = word k
word_or_name spelling None = name spelling

-- `propertyName` without quotes of CQL2's grammar (OGC 21-065r2, Annex B): a bare name that is a keyword is that keyword
abbrev pub bare : List ℕ → Sort
bare spelling = word_or_name spelling (keyword_of spelling)
