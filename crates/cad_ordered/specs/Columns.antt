-- Values in their order, with their positions.
use Rattle.std.specs.Prelude.{◌≡◌, ℕ, ◌+◌, ◌<◌, ◌≤◌, Bool, true, false, List, [], ◌∷◌, length, map, get_or, nat_le, nat_lt, chars, string_bytes, cond, not, Option, Some, None}
use Rattle.std.specs.List.{zip}
use Rattle.std.specs.List.Sorted.{IsPermutation}
use Rattle.std.specs.Ordering.{is_gt, is_le, is_lt, is_some_and}
use Rattle.std.specs.declared.cmp.Ordering.{Ordering}
use Rattle.cad_feature.specs.Values.{Datum, null, a_text, a_whole, a_day}
use Rattle.cad_schema.specs.declared.property.PropertyKind.{PropertyKind}
use Rattle.cad_schema.specs.declared.property.PropertyKind.TheVariants as kind
use Rattle.cad_range.specs.Ranges.{compared, has_order, holds_of, is_above, is_under}
use Rattle.cad_feature.specs.Limits.{limit_of}
use Rattle.cad_feature.specs.declared.range.Edge.{Edge}
use Rattle.cad_ordered.specs.declared.keys.Keys.{Keys}
use Rattle.cad_ordered.specs.declared.keys.Keys.TheVariants as keys

-- the values of one property, by position, of a kind that has an order
pub record Column : Type 0 where
  pub kind : PropertyKind
  pub values : List Datum

-- a kind that has no order has no column
abbrev pub ordered_column : PropertyKind → List Datum → Option Column
ordered_column kind.Text values = Some (record { kind = kind.Text; values = values })
ordered_column kind.Whole values = Some (record { kind = kind.Whole; values = values })
ordered_column kind.Flag values = None
ordered_column kind.Day values = Some (record { kind = kind.Day; values = values })
ordered_column kind.Span values = None
ordered_column kind.Spot values = None
ordered_column kind.Area values = None

abbrev pub data_of : Keys → List Datum
data_of (keys.Texts v) = map (λ text. a_text (chars (string_bytes text.value))) v.texts.items
data_of (keys.Wholes v) = map a_whole v.items
data_of (keys.Days v) = map a_day v.items

abbrev pub kind_of : Keys → PropertyKind
kind_of (keys.Texts v) = kind.Text
kind_of (keys.Wholes v) = kind.Whole
kind_of (keys.Days v) = kind.Day

abbrev pub AtMost : Datum → Datum → Type 0
AtMost x y = is_some_and is_le (compared x y) ≡ true

-- each value is at most each later one
abbrev pub IsAscending : List Datum → Type 0
IsAscending ds = (i j : ℕ) → i ≤ j → j < length ds → AtMost (get_or ds i null) (get_or ds j null)

-- below the value s, or up to it
abbrev pub is_before : Bool → Option Ordering → Bool
is_before upto answer = holds_of (cond upto (λ o. not (is_gt o)) is_lt) answer

-- the ds before place r are those before s
pub record IsSplit (upto : Bool) (ds : List Datum) (s : Datum) (r : ℕ) : Type 0 where
  pub within : r ≤ length ds
  pub before : (i : ℕ) → i < r → is_before upto (compared (get_or ds i null) s) ≡ true
  pub after : (i : ℕ) → r ≤ i → i < length ds → is_before upto (compared (get_or ds i null) s) ≡ false

-- each value with its position, in ascending order of positions
abbrev pub keyed_from : ℕ → List Datum → List (Datum × ℕ)
keyed_from p [] = []
keyed_from p (x ∷ xs) = cond (has_order x) ((x, p) ∷ keyed_from (p + 1) xs) (keyed_from (p + 1) xs)

-- the values are in their order, each with its position
pub record IsOrderOf (ds : List Datum) (places : List ℕ) (values : List Datum) : Type 0 where
  pub ascends : IsAscending ds
  pub same : IsPermutation (keyed_from 0 values) (zip ds places)
  pub beside : length ds ≡ length places

-- the value of each position, by its rank
abbrev pub by_rank : List Datum → List ℕ → List Datum
by_rank ds ranks = map (λ r. get_or ds r null) ranks

-- how many values lie below the lower edge
pub record IsLowRank (ds : List Datum) (low : Edge) (r : ℕ) : Type 0 where
  pub within : r ≤ length ds
  pub splits : (i : ℕ) → i < length ds → is_above (limit_of low) (get_or ds i null) ≡ nat_le r i

-- how many values lie below the upper edge, or at it if it is included
pub record IsHighRank (ds : List Datum) (high : Edge) (r : ℕ) : Type 0 where
  pub within : r ≤ length ds
  pub splits : (i : ℕ) → i < length ds → is_under (limit_of high) (get_or ds i null) ≡ nat_lt i r

-- each value has an order, or is null
abbrev pub AreOrdered : List Datum → Type 0
AreOrdered vs = (p : ℕ) → has_order (get_or vs p null) ≡ false → get_or vs p null ≡ null
