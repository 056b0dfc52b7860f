-- Values of properties (OGC 19-079r2, 6.2: queryables; the kinds: own profile).
use Rattle.std.specs.Prelude.{◌≡◌, ℕ, ℤ, Bool, true, List, Option, Some, None, chars, string_bytes, FitsSigned, ⊤}
use Rattle.std.specs.Int.{w64}
use Rattle.std.specs.Str.{all_scalars}
use Rattle.cad_day.specs.declared.day.Day.{Day}
use Rattle.cad_day.specs.declared.interval.Interval.{Interval}
use Rattle.cad_shape.specs.declared.point.Point.{Point}
use Rattle.cad_shape.specs.declared.polygon.Region.{Region}
use Rattle.cad_shape.specs.declared.shape.Shape.{Shape}
use Rattle.cad_shape.specs.declared.shape.Shape.TheVariants as shape
use Rattle.cad_feature.specs.declared.value.Value.{Value}
use Rattle.cad_feature.specs.declared.value.Value.TheVariants as value
use Rattle.cad_schema.specs.declared.property.PropertyKind.{PropertyKind}
use Rattle.cad_schema.specs.declared.property.PropertyKind.TheVariants as kind

-- a value as definitions see it; a text is its characters, each by its code point
pub data Datum : Type 0 where
  null : Datum
  a_text : List ℕ → Datum
  a_whole : ℤ → Datum
  a_flag : Bool → Datum
  a_day : Day → Datum
  a_span : Interval → Datum
  a_spot : Point → Datum
  an_area : Region → Datum

abbrev pub datum_of : Value → Datum
datum_of value.Null = null
datum_of (value.Text text) = a_text (chars (string_bytes text.value))
datum_of (value.Whole n) = a_whole n
datum_of (value.Flag b) = a_flag b
datum_of (value.Day day) = a_day day
datum_of (value.Span days) = a_span days.value
datum_of (value.Spot point) = a_spot point.value
datum_of (value.Area region) = an_area region

-- the whole number that it is, the day, the days and the shape
abbrev pub whole_in : Datum → Option ℤ
whole_in (a_whole n) = Some n
whole_in _ = None

abbrev pub day_in : Datum → Option Day
day_in (a_day d) = Some d
day_in _ = None

abbrev pub span_in : Datum → Option Interval
span_in (a_span days) = Some days
span_in _ = None

abbrev pub shape_in : Datum → Option Shape
shape_in (a_spot p) = Some (shape.Spot p)
shape_in (an_area region) = Some (shape.Area region)
shape_in _ = None

-- of the kind, or no value; texts hold only characters (Unicode scalar values), and whole numbers have 64 bits
abbrev pub IsOfKind : PropertyKind → Datum → Type 0
IsOfKind k null = ⊤
IsOfKind k (a_text characters) = (k ≡ kind.Text) × (all_scalars characters ≡ true)
IsOfKind k (a_whole n) = (k ≡ kind.Whole) × FitsSigned w64 n
IsOfKind k (a_flag b) = k ≡ kind.Flag
IsOfKind k (a_day day) = k ≡ kind.Day
IsOfKind k (a_span days) = k ≡ kind.Span
IsOfKind k (a_spot point) = k ≡ kind.Spot
IsOfKind k (an_area region) = k ≡ kind.Area

-- the value is seen as this one, of this kind
abbrev pub Shows : PropertyKind → Datum → Value → Type 0
Shows k d value = (datum_of value ≡ d) × IsOfKind k d
