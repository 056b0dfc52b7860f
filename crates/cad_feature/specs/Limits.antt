-- The ends of ranges of values (own profile).
use Rattle.std.specs.Prelude.{chars, string_bytes}
use Rattle.cad_feature.specs.Values.{Datum, a_text, a_whole, a_day}
use Rattle.cad_feature.specs.declared.range.Edge.{Edge}
use Rattle.cad_feature.specs.declared.range.Edge.TheVariants as edge
use Rattle.cad_feature.specs.declared.range.Scalar.{Scalar}
use Rattle.cad_feature.specs.declared.range.Scalar.TheVariants as scalar

-- an end without its place in memory: no end, or a value that is the last one inside, or the first one outside
pub data Limit : Type 0 where
  free : Limit
  with_value : Datum → Limit
  without_value : Datum → Limit

-- a value of a kind that has an order, as a value of a property
abbrev pub scalar_datum : Scalar → Datum
scalar_datum (scalar.Text text) = a_text (chars (string_bytes text))
scalar_datum (scalar.Whole n) = a_whole n
scalar_datum (scalar.Day day) = a_day day

abbrev pub limit_of : Edge → Limit
limit_of edge.Free = free
limit_of (edge.With s) = with_value (scalar_datum s)
limit_of (edge.Without s) = without_value (scalar_datum s)
