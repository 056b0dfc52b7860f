-- A filter without its place in memory (OGC 21-065r2, requirements class Basic CQL2).
use Rattle.std.specs.Prelude.{ℕ, ℤ, Bool, List, [], ◌∷◌, map, string_bytes}
use Rattle.cad_day.specs.declared.relation.Relation.{Relation}
use Rattle.cql_lexer.specs.declared.token.Comparison.{Comparison}
use Rattle.cql_lexer.specs.declared.token.SpatialRelation.{SpatialRelation}
use Rattle.cql_tree.specs.declared.expression.Operation.{Operation}
use Rattle.cql_types.specs.declared.filter.WholeTerm.{WholeTerm}
use Rattle.cql_types.specs.declared.filter.WholeTerm.TheOpen.{WholeTerm-F, Step-F}
use Rattle.cql_types.specs.declared.filter.WholeTerm.TheFolds.{fold-WholeTerm}
use Rattle.cql_types.specs.declared.filter.TextTerm.{TextTerm}
use Rattle.cql_types.specs.declared.filter.TextTerm.TheOpen.{TextTerm-F}
use Rattle.cql_types.specs.declared.filter.TextTerm.TheFolds.{fold-TextTerm}
use Rattle.cql_types.specs.declared.filter.DayTerm.{DayTerm}
use Rattle.cql_types.specs.declared.filter.FlagTerm.{FlagTerm}
use Rattle.cql_types.specs.declared.filter.SpanTerm.{SpanTerm}
use Rattle.cql_types.specs.declared.filter.ShapeTerm.{ShapeTerm}
use Rattle.cql_types.specs.declared.filter.AnyTerm.{AnyTerm}
use Rattle.cql_types.specs.declared.filter.AnyTerm.TheVariants as any
use Rattle.cql_types.specs.declared.filter.Filter.{Filter}
use Rattle.cql_types.specs.declared.filter.Filter.TheOpen.{Filter-F}
use Rattle.cql_types.specs.declared.filter.Filter.TheFolds.{fold-Filter}

mutual
  -- a whole number of 64 bits, or none; a property is named by its place in the schema
  pub data NumericExpression : Type 0 where
    number : ℤ → NumericExpression
    number_property : ℕ → NumericExpression
    computed : NumericExpression → NumericSteps → NumericExpression

  -- what is done, from the left, with the numbers behind the first of a sum or a product
  pub data NumericSteps : Type 0 where
    no_step : NumericSteps
    one_step : Operation → NumericExpression → NumericSteps → NumericSteps

-- a text, by its bytes
pub data CharacterExpression : Type 0 where
  characters : List ℕ → CharacterExpression
  text_property : ℕ → CharacterExpression
  folded : CharacterExpression → CharacterExpression

-- an expression of any kind
pub data ScalarExpression : Type 0 where
  of_number : NumericExpression → ScalarExpression
  of_text : CharacterExpression → ScalarExpression
  of_day : DayTerm → ScalarExpression
  of_flag : FlagTerm → ScalarExpression
  of_span : SpanTerm → ScalarExpression
  of_shape : ShapeTerm → ScalarExpression

mutual
  -- a condition, by the expressions in it
  pub data Condition : Type 0 where
    truth : Bool → Condition
    compare_numbers : Comparison → NumericExpression → NumericExpression → Condition
    compare_texts : Comparison → CharacterExpression → CharacterExpression → Condition
    compare_days : Comparison → DayTerm → DayTerm → Condition
    compare_flags : Comparison → FlagTerm → FlagTerm → Condition
    like : CharacterExpression → CharacterExpression → Condition
    between : NumericExpression → NumericExpression → NumericExpression → Condition
    among_numbers : NumericExpression → List NumericExpression → Condition
    among_texts : CharacterExpression → List CharacterExpression → Condition
    among_days : DayTerm → List DayTerm → Condition
    among_flags : FlagTerm → List FlagTerm → Condition
    is_null : ScalarExpression → Condition
    spatial : SpatialRelation → ShapeTerm → ShapeTerm → Condition
    temporal : Relation → SpanTerm → SpanTerm → Condition
    negation : Condition → Condition
    conjunction : Conditions → Condition
    disjunction : Conditions → Condition

  -- the parts of AND and OR
  pub data Conditions : Type 0 where
    no_condition : Conditions
    one_condition : Condition → Conditions → Conditions

-- ---- what filters and terms are

abbrev pub steps_of : List (Operation × NumericExpression) → NumericSteps
steps_of [] = no_step
steps_of (s ∷ ss) = one_step s.0 s.1 (steps_of ss)

abbrev pub conditions_of : List Condition → Conditions
conditions_of [] = no_condition
conditions_of (f ∷ fs) = one_condition f (conditions_of fs)

-- from what the terms inside are
abbrev pub numeric_step : WholeTerm-F NumericExpression (Operation × NumericExpression) → NumericExpression
numeric_step (WholeTerm-F.Constant z) = number z
numeric_step (WholeTerm-F.Property i) = number_property i
numeric_step (WholeTerm-F.Computed first steps) = computed first.value (steps_of steps.items)

abbrev pub operation_step : Step-F NumericExpression (Operation × NumericExpression) → Operation × NumericExpression
operation_step step = (step.by, step.term)

abbrev pub numeric : WholeTerm → NumericExpression
numeric = fold-WholeTerm NumericExpression (Operation × NumericExpression) numeric_step operation_step

abbrev pub character_step : TextTerm-F CharacterExpression → CharacterExpression
character_step (TextTerm-F.Constant content) = characters (string_bytes content)
character_step (TextTerm-F.Property i) = text_property i
character_step (TextTerm-F.Folded term) = folded term.value

abbrev pub character : TextTerm → CharacterExpression
character = fold-TextTerm CharacterExpression character_step

abbrev pub scalar : AnyTerm → ScalarExpression
scalar (any.Whole a) = of_number (numeric a)
scalar (any.Text a) = of_text (character a)
scalar (any.Day a) = of_day a
scalar (any.Flag a) = of_flag a
scalar (any.Span a) = of_span a
scalar (any.Shape a) = of_shape a

abbrev pub condition_step : Filter-F Condition → Condition
condition_step (Filter-F.Truth b) = truth b
condition_step (Filter-F.CompareWhole by a b) = compare_numbers by (numeric a) (numeric b)
condition_step (Filter-F.CompareText by a b) = compare_texts by (character a) (character b)
condition_step (Filter-F.CompareDay by a b) = compare_days by a b
condition_step (Filter-F.CompareFlag by a b) = compare_flags by a b
condition_step (Filter-F.Like value pattern) = like (character value) (character pattern)
condition_step (Filter-F.Between value low high) = between (numeric value) (numeric low) (numeric high)
condition_step (Filter-F.InWhole value items) = among_numbers (numeric value) (map numeric items.items)
condition_step (Filter-F.InText value items) = among_texts (character value) (map character items.items)
condition_step (Filter-F.InDay value items) = among_days value items.items
condition_step (Filter-F.InFlag value items) = among_flags value items.items
condition_step (Filter-F.IsNull a) = is_null (scalar a)
condition_step (Filter-F.Spatial by a b) = spatial by a b
condition_step (Filter-F.Temporal by a b) = temporal by a b
condition_step (Filter-F.Not f) = negation f.value
condition_step (Filter-F.And fs) = conjunction (conditions_of fs.items)
condition_step (Filter-F.Or fs) = disjunction (conditions_of fs.items)

-- the condition that a filter is
abbrev pub condition_in : Filter → Condition
condition_in = fold-Filter Condition condition_step
