-- Ranges of the values of one property, and the features that have a value inside (OGC 21-065r2, requirements class Basic CQL2: comparison predicates; ranges: own profile).
use Rattle.std.specs.Prelude.{Bool, true, false, ◌&&◌, not, if◌then◌else◌, Option, Some, None}
use Rattle.std.specs.declared.cmp.Ordering.{Ordering}
use Rattle.std.specs.Ordering.{int_cmp, is_lt, is_gt}
use Rattle.cad_day.specs.Days.{number_of}
use Rattle.cad_feature.specs.Features.{Item, datum_at}
use Rattle.cad_feature.specs.Limits.{Limit, free, with_value, without_value, limit_of}
use Rattle.cad_feature.specs.Values.{Datum, a_text, a_whole, a_day}
use Rattle.cad_feature.specs.declared.range.Edge.{Edge}
use Rattle.cad_feature.specs.declared.range.Range.{Range}
use Rattle.cql_text.specs.Order.{text_cmp}

-- the order of two texts, two whole numbers or two days; other values have none
abbrev pub compared : Datum → Datum → Option Ordering
compared (a_text a) (a_text b) = Some (text_cmp a b)
compared (a_whole a) (a_whole b) = Some (int_cmp a b)
compared (a_day a) (a_day b) = Some (int_cmp (number_of a) (number_of b))
compared a b = None

-- they have an order, and the test holds of it
abbrev pub holds_of : (Ordering → Bool) → Option Ordering → Bool
holds_of test None = false
holds_of test (Some o) = test o

-- not below a lower end
abbrev pub is_above : Limit → Datum → Bool
is_above free d = true
is_above (with_value e) d = holds_of (λ o. not (is_lt o)) (compared d e)
is_above (without_value e) d = holds_of is_gt (compared d e)

-- not above an upper end
abbrev pub is_under : Limit → Datum → Bool
is_under free d = true
is_under (with_value e) d = holds_of (λ o. not (is_gt o)) (compared d e)
is_under (without_value e) d = holds_of is_lt (compared d e)

-- a value of a kind that has an order
abbrev pub has_order : Datum → Bool
has_order (a_text t) = true
has_order (a_whole n) = true
has_order (a_day day) = true
has_order d = false

-- between the two ends; null, a flag, a span, a shape, and a value of another kind than an end lie in no range
abbrev pub lies_between : Limit → Limit → Datum → Bool
lies_between low high d = has_order d && (is_above low d && is_under high d)

-- a feature has a value inside the range
abbrev pub lies_in : Item → Range → Bool
lies_in x r = lies_between (limit_of r.low) (limit_of r.high) (datum_at x r.property)

-- ---- words of the contracts

-- without a range, the feature lies in none
abbrev pub lies_in_if_any : Item → Option Range → Bool
lies_in_if_any x None = false
lies_in_if_any x (Some r) = lies_in x r

-- the second of two tests or the first, as the option says; if it says neither, false
abbrev pub picked : Option Bool → Bool → Bool → Bool
picked None a b = false
picked (Some second) a b = if second then b else a

abbrev pub chosen_of : Bool → Edge → Edge → Edge
chosen_of true first second = second
chosen_of false first second = first
