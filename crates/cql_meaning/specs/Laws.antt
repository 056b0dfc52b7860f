-- What holds of filters, of values and of intervals, beyond what each call says.
use Rattle.std.specs.Prelude.{◌≡◌, ◌⊎◌, false, not, [], ◌∷◌, map, Option, Some, None, Box, Vec, IsTrue}
use Rattle.std.specs.List.{list_all, list_any}
use Rattle.std.specs.declared.alloc.Global.{Global}
use Rattle.cad_day.specs.declared.day.Day.{Day}
use Rattle.cad_day.specs.declared.relation.Relation.{Relation}
use Rattle.cad_feature.specs.Features.{Item}
use Rattle.cql_lexer.specs.declared.token.Comparison.{Comparison}
use Rattle.cql_lexer.specs.declared.token.Comparison.TheVariants.{Equal, AtMost, AtLeast}
use Rattle.cql_lexer.specs.declared.token.SpatialRelation.{SpatialRelation}
use Rattle.cql_types.specs.Conditions.{condition_in}
use Rattle.cql_types.specs.declared.filter.WholeTerm.{WholeTerm}
use Rattle.cql_types.specs.declared.filter.TextTerm.{TextTerm}
use Rattle.cql_types.specs.declared.filter.DayTerm.{DayTerm}
use Rattle.cql_types.specs.declared.filter.FlagTerm.{FlagTerm}
use Rattle.cql_types.specs.declared.filter.AnyTerm.{AnyTerm}
use Rattle.cql_types.specs.declared.filter.Filter.{Filter}
use Rattle.cql_types.specs.declared.filter.Filter.TheVariants as filter
use Rattle.cql_meaning.specs.Arithmetic.{whole_value}
use Rattle.cql_meaning.specs.Sides.{sides, yes, no}
use Rattle.cql_meaning.specs.Values.{day_value, flag_value, shape_value, span_value, text_value}

-- no filter is both true and false of a feature
abbrev pub YesExcludesNo : Type 0
YesExcludesNo = (f : Filter) (x : Item) → IsTrue (yes f x) → ¬ (IsTrue (no f x))

-- NOT exchanges true and false
abbrev pub NotExchanges : Type 0
NotExchanges = (f : Box Filter Global) (x : Item) →
    (yes (filter.Not f) x ≡ no f.value x) × (no (filter.Not f) x ≡ yes f.value x)

-- NOT of NOT says what the filter inside says: so NOT (a NOT LIKE p) is a LIKE p
abbrev pub NotTwiceIsNone : Type 0
NotTwiceIsNone = (outer inner : Box Filter Global) (x : Item) → outer.value ≡ filter.Not inner →
    sides x (filter.Not outer) ≡ sides x inner.value

-- AND is true if every part is, and false if some part is
abbrev pub AndNeedsAll : Type 0
AndNeedsAll = (fs : Vec Filter Global) (x : Item) →
    (yes (filter.And fs) x ≡ list_all (λ f. yes f x) fs.items) × (no (filter.And fs) x ≡ list_any (λ f. no f x) fs.items)

-- OR is true if some part is, and false if every part is
abbrev pub OrNeedsSome : Type 0
OrNeedsSome = (fs : Vec Filter Global) (x : Item) →
    (yes (filter.Or fs) x ≡ list_any (λ f. yes f x) fs.items) × (no (filter.Or fs) x ≡ list_all (λ f. no f x) fs.items)

-- a BETWEEN b AND c is a >= b AND a <= c
abbrev pub BetweenIsTwoComparisons : Type 0
BetweenIsTwoComparisons = (a low high : WholeTerm) (fs : Vec Filter Global) (x : Item) →
    fs.items ≡ filter.CompareWhole AtLeast a low ∷ filter.CompareWhole AtMost a high ∷ [] →
    sides x (filter.Between a low high) ≡ sides x (filter.And fs)

-- the OR of equalities with each item
abbrev pub IsSomeEqual : {T : Type 0} → (Vec T Global → Filter) → (T → Filter) → Type 0
IsSomeEqual {T} is_in equal = (items : Vec T Global) (fs : Vec Filter Global) (x : Item) →
    fs.items ≡ map equal items.items → sides x (is_in items) ≡ sides x (filter.Or fs)

-- a IN (b, c, ..) is a = b OR a = c OR .., for each kind of operands
abbrev pub InIsSomeEqual : Type 0
InIsSomeEqual =
    (wholes : (a : WholeTerm) → IsSomeEqual (filter.InWhole a) (filter.CompareWhole Equal a))
    × (texts : (a : TextTerm) → IsSomeEqual (filter.InText a) (filter.CompareText Equal a))
    × (days : (a : DayTerm) → IsSomeEqual (filter.InDay a) (filter.CompareDay Equal a))
    × ((a : FlagTerm) → IsSomeEqual (filter.InFlag a) (filter.CompareFlag Equal a))

-- if one of two operands has no value, the filter made of them is neither true nor false
abbrev pub IsUndecidedByNull : {T V : Type 0} → (Item → T → Option V) → (T → T → Filter) → Type 0
IsUndecidedByNull {T} value made = (a b : T) (x : Item) → (value x a ≡ None) ⊎ (value x b ≡ None) →
    (yes (made a b) x ≡ false) × (no (made a b) x ≡ false)

-- a comparison of any kind, LIKE, and an S_ or T_ function with an operand that has no value are neither true nor false
abbrev pub NullDecidesNothing : Type 0
NullDecidesNothing =
    (wholes : (by : Comparison) → IsUndecidedByNull whole_value (filter.CompareWhole by))
    × (texts : (by : Comparison) → IsUndecidedByNull text_value (filter.CompareText by))
    × (days : (by : Comparison) → IsUndecidedByNull day_value (filter.CompareDay by))
    × (flags : (by : Comparison) → IsUndecidedByNull flag_value (filter.CompareFlag by))
    × (likes : IsUndecidedByNull text_value filter.Like)
    × (shapes : (by : SpatialRelation) → IsUndecidedByNull shape_value (filter.Spatial by))
    × ((by : Relation) → IsUndecidedByNull span_value (filter.Temporal by))

-- IS NULL is true or false of each feature
abbrev pub IsNullDecides : Type 0
IsNullDecides = (a : AnyTerm) (x : Item) → no (filter.IsNull a) x ≡ not (yes (filter.IsNull a) x)

-- two filters of one condition are true of the same features, and false of the same
abbrev pub FiltersOfOneConditionAgree : Type 0
FiltersOfOneConditionAgree = (f g : Filter) (x : Item) → condition_in f ≡ condition_in g → sides x f ≡ sides x g
