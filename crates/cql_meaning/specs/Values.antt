-- The value of a property and of a constant on a feature, or none (OGC 21-065r2, requirements class Basic CQL2: property references and literals).
use Rattle.std.specs.Prelude.{ℕ, Bool, List, Option, Some, None, chars, string_bytes, option_map}
use Rattle.std.specs.Option.{option_and_then}
use Rattle.caseless.specs.Caseless.{default_case_fold}
use Rattle.cad_day.specs.declared.day.Day.{Day}
use Rattle.cad_day.specs.declared.interval.Interval.{Interval}
use Rattle.cad_shape.specs.declared.shape.Shape.{Shape}
use Rattle.cad_feature.specs.Values.{Datum, a_text, a_flag}
pub use Rattle.cad_feature.specs.Values.{day_in, span_in, shape_in}
use Rattle.cad_feature.specs.Features.{Item, datum_at}
use Rattle.cql_types.specs.declared.filter.TextTerm.{TextTerm}
use Rattle.cql_types.specs.declared.filter.TextTerm.TheOpen.{TextTerm-F}
use Rattle.cql_types.specs.declared.filter.TextTerm.TheFolds.{fold-TextTerm}
use Rattle.cql_types.specs.declared.filter.DayTerm.{DayTerm}
use Rattle.cql_types.specs.declared.filter.DayTerm.TheVariants as day
use Rattle.cql_types.specs.declared.filter.FlagTerm.{FlagTerm}
use Rattle.cql_types.specs.declared.filter.FlagTerm.TheVariants as flag
use Rattle.cql_types.specs.declared.filter.EndTerm.{EndTerm}
use Rattle.cql_types.specs.declared.filter.EndTerm.TheVariants as end
use Rattle.cql_types.specs.declared.filter.SpanTerm.{SpanTerm}
use Rattle.cql_types.specs.declared.filter.SpanTerm.TheVariants as span
use Rattle.cql_types.specs.declared.filter.ShapeTerm.{ShapeTerm}
use Rattle.cql_types.specs.declared.filter.ShapeTerm.TheVariants as place
use Rattle.cad_day.specs.Intervals.{interval_of, day_interval}

-- no value if either has none
abbrev pub both : {A B C : Type 0} → (A → B → Option C) → Option A → Option B → Option C
both f (Some a) (Some b) = f a b
both f _ _ = None

-- ---- texts

abbrev pub text_in : Datum → Option (List ℕ)
text_in (a_text characters) = Some characters
text_in _ = None

abbrev pub folded_content : Option (List ℕ) → Option (List ℕ)
folded_content text = option_map default_case_fold text

-- with the terms inside replaced by their values; CASEI is full default case folding (OGC 21-065r2, requirements class Case-insensitive Comparison)
abbrev pub text_step : Item → TextTerm-F (Option (List ℕ)) → Option (List ℕ)
text_step x (TextTerm-F.Constant content) = Some (chars (string_bytes content))
text_step x (TextTerm-F.Property i) = text_in (datum_at x i)
text_step x (TextTerm-F.Folded text) = folded_content text.value

abbrev pub text_value : Item → TextTerm → Option (List ℕ)
text_value x = fold-TextTerm (Option (List ℕ)) (text_step x)

-- ---- flags

abbrev pub flag_in : Datum → Option Bool
flag_in (a_flag b) = Some b
flag_in _ = None

abbrev pub flag_value : Item → FlagTerm → Option Bool
flag_value x (flag.Constant b) = Some b
flag_value x (flag.Property i) = flag_in (datum_at x i)

-- ---- days and intervals (OGC 21-065r2, requirements class Temporal Functions; intervals of whole days: own profile)

abbrev pub day_value : Item → DayTerm → Option Day
day_value x (day.Constant d) = Some d
day_value x (day.Property i) = day_in (datum_at x i)

-- an end of an INTERVAL: `..` is open, and a null property leaves no value
abbrev pub end_value : Item → EndTerm → Option (Option Day)
end_value x end.Open = Some None
end_value x (end.Day d) = option_map Some (day_value x d)

-- a day is the interval of that day; an INTERVAL has no value if an end has none, or if its last day is before its first on this feature
abbrev pub span_value : Item → SpanTerm → Option Interval
span_value x (span.Day d) = option_and_then day_interval (day_value x d)
span_value x (span.Property i) = span_in (datum_at x i)
span_value x (span.Interval from to) = both interval_of (end_value x from) (end_value x to)

-- ---- shapes (OGC 21-065r2, requirements class Basic Spatial Functions: spatial literals)

abbrev pub shape_value : Item → ShapeTerm → Option Shape
shape_value x (place.Constant s) = Some s
shape_value x (place.Property i) = shape_in (datum_at x i)
