-- The features of which a filter is true, and those of which it is false; of the others it is null (OGC 21-065r2, requirements class Basic CQL2: comparison predicates, logical operators and three-valued logic).
use Rattle.std.specs.Prelude.{ℕ, ℤ, Bool, false, not, List, [], ◌∷◌, map, Option, Some, None, is_none}
use Rattle.std.specs.List.{list_all, list_any}
use Rattle.std.specs.declared.cmp.Ordering.{Ordering}
use Rattle.std.specs.Ordering.{int_cmp, bool_cmp, is_eq, is_lt, is_gt}
use Rattle.cad_day.specs.declared.day.Day.{Day}
use Rattle.cad_day.specs.Days.{number_of}
use Rattle.cad_day.specs.Relations.{holds}
use Rattle.cad_shape.specs.declared.shape.Shape.{Shape}
use Rattle.cad_shape.specs.Tests.{shapes_meet, within}
use Rattle.cad_feature.specs.Features.{Item}
use Rattle.cql_lexer.specs.declared.token.Comparison.{Comparison}
use Rattle.cql_lexer.specs.declared.token.Comparison.TheVariants.{Equal, Unequal, Less, Greater, AtMost, AtLeast}
use Rattle.cql_lexer.specs.declared.token.SpatialRelation.{SpatialRelation}
use Rattle.cql_lexer.specs.declared.token.SpatialRelation.TheVariants.{Intersects, Disjoint, Within, Contains}
use Rattle.cql_text.specs.Order.{text_cmp}
use Rattle.cql_text.specs.Patterns.{like_test}
use Rattle.cql_types.specs.declared.filter.AnyTerm.{AnyTerm}
use Rattle.cql_types.specs.declared.filter.AnyTerm.TheVariants as any
use Rattle.cql_types.specs.declared.filter.Filter.{Filter}
use Rattle.cql_types.specs.declared.filter.Filter.TheOpen.{Filter-F}
use Rattle.cql_types.specs.declared.filter.Filter.TheFolds.{fold-Filter}
use Rattle.cql_meaning.specs.Arithmetic.{whole_value}
use Rattle.cql_meaning.specs.Values.{both, day_value, flag_value, shape_value, span_value, text_value}

-- whether a filter is true of a feature, and whether it is false of it
pub record Sides : Type 0 where
  pub yes : Bool
  pub no : Bool

-- the sides of an answer; without an answer neither side is true
abbrev pub sides_of : Option Bool → Sides
sides_of (Some b) = record { yes = b; no = not b }
sides_of None = record { yes = false; no = false }

-- ---- one condition on values

-- both operands have values and the test holds of them, or does not
abbrev pub compared : {A : Type 0} → (A → A → Bool) → Option A → Option A → Sides
compared test a b = sides_of (both (λ x y. Some (test x y)) a b)

-- a comparison, by the order of its operands
abbrev pub stands : Comparison → Ordering → Bool
stands Equal o = is_eq o
stands Unequal o = not (is_eq o)
stands Less o = is_lt o
stands Greater o = is_gt o
stands AtMost o = not (is_gt o)
stands AtLeast o = not (is_lt o)

abbrev pub wholes : Comparison → ℤ → ℤ → Bool
wholes by a b = stands by (int_cmp a b)

-- by code points
abbrev pub texts : Comparison → List ℕ → List ℕ → Bool
texts by a b = stands by (text_cmp a b)

abbrev pub days : Comparison → Day → Day → Bool
days by a b = stands by (int_cmp (number_of a) (number_of b))

-- accepted filters compare flags only by equality
abbrev pub flags : Comparison → Bool → Bool → Bool
flags by a b = stands by (bool_cmp a b)

-- LIKE (OGC 21-065r2, requirements class Advanced Comparison Operators)
abbrev pub is_like : List ℕ → List ℕ → Bool
is_like text pattern = like_test pattern text

-- S_ functions; a pair of shapes that is not decided gives no answer (OGC 21-065r2, requirements class Spatial Functions; boundaries: own
-- profile)
abbrev pub spatial : SpatialRelation → Shape → Shape → Option Bool
spatial Intersects a b = Some (shapes_meet a b)
spatial Disjoint a b = Some (not (shapes_meet a b))
spatial Within a b = within a b
spatial Contains a b = within b a

-- IS NULL (OGC 21-065r2, requirements class Basic CQL2: IS NULL)
abbrev pub is_null : Item → AnyTerm → Bool
is_null x (any.Whole a) = is_none (whole_value x a)
is_null x (any.Text a) = is_none (text_value x a)
is_null x (any.Day a) = is_none (day_value x a)
is_null x (any.Flag a) = is_none (flag_value x a)
is_null x (any.Span a) = is_none (span_value x a)
is_null x (any.Shape a) = is_none (shape_value x a)

-- ---- conditions of conditions

-- NOT
abbrev pub negation : Sides → Sides
negation s = record { yes = s.no; no = s.yes }

-- AND
abbrev pub conjunction : List Sides → Sides
conjunction parts = record { yes = list_all (λ s. s.yes) parts; no = list_any (λ s. s.no) parts }

-- OR
abbrev pub disjunction : List Sides → Sides
disjunction parts = record { yes = list_any (λ s. s.yes) parts; no = list_all (λ s. s.no) parts }

-- BETWEEN: at least the one and at most the other (OGC 21-065r2, requirements class Advanced Comparison Operators)
abbrev pub between : Option ℤ → Option ℤ → Option ℤ → Sides
between a low high = conjunction (compared (wholes AtLeast) a low ∷ compared (wholes AtMost) a high ∷ [])

abbrev pub equal_to : {A T : Type 0} → (A → A → Bool) → (T → Option A) → Option A → T → Sides
equal_to equal value a item = compared equal a (value item)

-- IN: equal to some item (OGC 21-065r2, requirements class Advanced Comparison Operators)
abbrev pub among : {A T : Type 0} → (A → A → Bool) → (T → Option A) → Option A → List T → Sides
among equal value a items = disjunction (map (equal_to equal value a) items)

-- ---- filters

-- a filter, with the sides of each part in the part's place
abbrev pub side_step : Item → Filter-F Sides → Sides
side_step x (Filter-F.Truth b) = sides_of (Some b)
side_step x (Filter-F.CompareWhole by a b) = compared (wholes by) (whole_value x a) (whole_value x b)
side_step x (Filter-F.CompareText by a b) = compared (texts by) (text_value x a) (text_value x b)
side_step x (Filter-F.CompareDay by a b) = compared (days by) (day_value x a) (day_value x b)
side_step x (Filter-F.CompareFlag by a b) = compared (flags by) (flag_value x a) (flag_value x b)
side_step x (Filter-F.Like a pattern) = compared is_like (text_value x a) (text_value x pattern)
side_step x (Filter-F.Between a low high) = between (whole_value x a) (whole_value x low) (whole_value x high)
side_step x (Filter-F.InWhole a items) = among (wholes Equal) (whole_value x) (whole_value x a) items.items
side_step x (Filter-F.InText a items) = among (texts Equal) (text_value x) (text_value x a) items.items
side_step x (Filter-F.InDay a items) = among (days Equal) (day_value x) (day_value x a) items.items
side_step x (Filter-F.InFlag a items) = among (flags Equal) (flag_value x) (flag_value x a) items.items
side_step x (Filter-F.IsNull a) = sides_of (Some (is_null x a))
side_step x (Filter-F.Spatial by a b) = sides_of (both (spatial by) (shape_value x a) (shape_value x b))
side_step x (Filter-F.Temporal by a b) = compared (holds by) (span_value x a) (span_value x b)
side_step x (Filter-F.Not f) = negation f.value
side_step x (Filter-F.And fs) = conjunction fs.items
side_step x (Filter-F.Or fs) = disjunction fs.items

abbrev pub sides : Item → Filter → Sides
sides x = fold-Filter Sides (side_step x)

-- the features of which the filter is true, and those of which it is false
abbrev pub yes : Filter → Item → Bool
yes f x = (sides x f).yes

abbrev pub no : Filter → Item → Bool
no f x = (sides x f).no
