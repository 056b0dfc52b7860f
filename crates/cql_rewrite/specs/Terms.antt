-- What a comparison reduces to if an operand is a constant (own profile).
use Rattle.std.specs.Prelude.{ℕ, Bool, true, false, not, List, Option, Some, None, option_map}
use Rattle.cad_feature.specs.Features.{Item, datum_at}
use Rattle.cad_feature.specs.Limits.{Limit, free, scalar_datum, without_value}
use Rattle.cad_feature.specs.Values.{a_text}
use Rattle.cad_feature.specs.declared.range.Range.{Range}
use Rattle.cad_range.specs.Ranges.{compared as order_of, lies_in}
use Rattle.cql_lexer.specs.declared.token.Comparison.{Comparison}
use Rattle.cql_lexer.specs.declared.token.Comparison.TheVariants as comparison
use Rattle.cql_types.specs.declared.filter.Filter.{Filter}
use Rattle.cql_types.specs.declared.filter.DayTerm.{DayTerm}
use Rattle.cql_types.specs.declared.filter.FlagTerm.{FlagTerm}
use Rattle.cql_types.specs.declared.filter.FlagTerm.TheVariants as flag
use Rattle.cql_types.specs.declared.filter.TextTerm.{TextTerm}
use Rattle.cql_types.specs.declared.filter.WholeTerm.{WholeTerm}
use Rattle.cql_types.specs.declared.filter.WholeTerm.TheVariants as whole
use Rattle.cql_types.specs.declared.filter.TextTerm.TheVariants as text
use Rattle.cql_types.specs.declared.filter.DayTerm.TheVariants as day
use Rattle.cql_meaning.specs.Arithmetic.{whole_value}
use Rattle.cql_meaning.specs.Sides.{Sides, among, compared, days, flags, is_like, sides, stands, texts, sides_of, wholes}
use Rattle.cql_meaning.specs.Values.{day_value, flag_value, text_value}
use Rattle.cql_rewrite.specs.declared.form.Normal.{Normal}
use Rattle.cql_rewrite.specs.declared.plain.Plain.{Plain}
use Rattle.cql_rewrite.specs.declared.plain.Plain.TheVariants as plain
use Rattle.cql_rewrite.specs.Meets.{meets}

-- ---- comparisons of terms of one kind

abbrev pub whole_sides : Comparison → Item → WholeTerm → WholeTerm → Sides
whole_sides by x a b = compared (wholes by) (whole_value x a) (whole_value x b)

abbrev pub text_sides : Comparison → Item → TextTerm → TextTerm → Sides
text_sides by x a b = compared (texts by) (text_value x a) (text_value x b)

abbrev pub day_sides : Comparison → Item → DayTerm → DayTerm → Sides
day_sides by x a b = compared (days by) (day_value x a) (day_value x b)

abbrev pub flag_sides : Comparison → Item → FlagTerm → FlagTerm → Sides
flag_sides by x a b = compared (flags by) (flag_value x a) (flag_value x b)

abbrev pub like_sides : Item → TextTerm → TextTerm → Sides
like_sides x a pattern = compared is_like (text_value x a) (text_value x pattern)

-- IN over texts
abbrev pub in_text_sides : Item → TextTerm → List TextTerm → Sides
in_text_sides x a items = among (texts comparison.Equal) (text_value x) (text_value x a) items

-- every comparison but <>
abbrev pub is_ranged : Comparison → Bool
is_ranged comparison.Equal = true
is_ranged comparison.Unequal = false
is_ranged comparison.Less = true
is_ranged comparison.Greater = true
is_ranged comparison.AtMost = true
is_ranged comparison.AtLeast = true

-- a bare property and a literal, in a relation other than <>
abbrev pub is_plain_wholes : Comparison → WholeTerm → WholeTerm → Bool
is_plain_wholes by (whole.Property i) (whole.Constant n) = is_ranged by
is_plain_wholes by (whole.Constant n) (whole.Property i) = is_ranged by
is_plain_wholes by a b = false

abbrev pub is_plain_texts : Comparison → TextTerm → TextTerm → Bool
is_plain_texts by (text.Property i) (text.Constant s) = is_ranged by
is_plain_texts by (text.Constant s) (text.Property i) = is_ranged by
is_plain_texts by a b = false

abbrev pub is_plain_days : Comparison → DayTerm → DayTerm → Bool
is_plain_days by (day.Property i) (day.Constant d) = is_ranged by
is_plain_days by (day.Constant d) (day.Property i) = is_ranged by
is_plain_days by a b = false

-- two flags, one of which is a literal
abbrev pub is_plain_flags : FlagTerm → FlagTerm → Bool
is_plain_flags (flag.Property i) (flag.Property j) = false
is_plain_flags a b = true

-- ---- what a comparison reduces to

-- what the reduced comparison says of a feature; if it reduces to nothing, what is given
abbrev pub plain_sides : Item → Plain → Sides → Sides
plain_sides x (plain.Decided b) s = sides_of (Some b)
plain_sides x plain.Never s = sides_of None
plain_sides x (plain.Compared property by scalar) s = sides_of (option_map (stands by) (order_of (datum_at x property) (scalar_datum scalar)))
plain_sides x plain.Other s = s

-- it reduces to a constant or a range
abbrev pub is_exact : Plain → Bool
is_exact (plain.Decided b) = true
is_exact plain.Never = true
is_exact (plain.Compared property by scalar) = is_ranged by
is_exact plain.Other = false

-- ---- words of the contracts

-- a test, or its failure
abbrev pub side_of_test : Bool → Bool → Bool
side_of_test true b = b
side_of_test false b = not b

-- the comparison with its operands exchanged
abbrev pub turned_of : Comparison → Comparison
turned_of comparison.Equal = comparison.Equal
turned_of comparison.Unequal = comparison.Unequal
turned_of comparison.Less = comparison.Greater
turned_of comparison.Greater = comparison.Less
turned_of comparison.AtMost = comparison.AtLeast
turned_of comparison.AtLeast = comparison.AtMost

-- whether the feature meets the form, if there is one; else what is given
abbrev pub met_or : Item → Option Normal → Bool → Bool
met_or x None given = given
met_or x (Some n) given = meets x n

-- what the filter says of the feature, if there is one; else what is given
abbrev pub filter_or : Item → Option Filter → Sides → Sides
filter_or x None given = given
filter_or x (Some f) given = sides x f

-- whether the feature is in the range, if there is one; else what is given
abbrev pub said_by : Option Range → Item → Bool → Bool
said_by None x given = given
said_by (Some r) x given = lies_in x r

-- the end of a range of texts, which is not included
abbrev pub end_limit : Option (List ℕ) → Limit
end_limit None = free
end_limit (Some end) = without_value (a_text end)
