-- How long a feature is tested at most, in the times that a number takes which is read and compared (own profile).
use Rattle.std.specs.Prelude.{ℕ, ◌+◌, ◌*◌, min, length, map, Option, Some, None}
use Rattle.cad_lookup.specs.Ways.{total}
use Rattle.cad_shape.specs.Shapes.{shape_corners}
use Rattle.cql_types.specs.declared.filter.AnyTerm.{AnyTerm}
use Rattle.cql_types.specs.declared.filter.AnyTerm.TheVariants.{Whole}
use Rattle.cql_types.specs.declared.filter.Filter.{Filter}
use Rattle.cql_types.specs.declared.filter.Filter.TheOpen.{Filter-F}
use Rattle.cql_types.specs.declared.filter.Filter.TheFolds.{fold-Filter}
use Rattle.cql_types.specs.declared.filter.ShapeTerm.{ShapeTerm}
use Rattle.cql_types.specs.declared.filter.ShapeTerm.TheVariants.{Constant, Property}
use Rattle.cql_types.specs.declared.filter.Step.{Step}
use Rattle.cql_types.specs.declared.filter.WholeTerm.{WholeTerm}
use Rattle.cql_types.specs.declared.filter.WholeTerm.TheOpen.{WholeTerm-F, Step-F}
use Rattle.cql_types.specs.declared.filter.WholeTerm.TheFolds.{fold-WholeTerm}

-- two texts that are compared; a text that is compared with a pattern; two shapes without corners
abbrev pub text_weight : ℕ
text_weight = 6

abbrev pub like_weight : ℕ
like_weight = 16

abbrev pub shapes_weight : ℕ
shapes_weight = 32

-- a computed number takes as long as all its parts
abbrev pub number_step : WholeTerm-F ℕ ℕ → ℕ
number_step (WholeTerm-F.Constant n) = 1
number_step (WholeTerm-F.Property i) = 1
number_step (WholeTerm-F.Computed first parts) = first.value + total parts.items

abbrev pub number_part : Step-F ℕ ℕ → ℕ
number_part part = part.term

abbrev pub number_weight : WholeTerm → ℕ
number_weight = fold-WholeTerm ℕ ℕ number_step number_part

-- and a part as its term
abbrev pub part_weight : Step → ℕ
part_weight part = number_weight part.term

abbrev pub term_weight : AnyTerm → ℕ
term_weight (Whole a) = number_weight a
term_weight other = 1

-- a shape of the filter takes longer, the more corners it has
abbrev pub corners_in : ShapeTerm → ℕ
corners_in (Constant shape) = length (shape_corners shape)
corners_in (Property i) = 0

-- with those of each part in the part's place: an AND or an OR takes as long as all its parts, an IN as its items
abbrev pub weight_step : Filter-F ℕ → ℕ
weight_step (Filter-F.Truth b) = 1
weight_step (Filter-F.CompareWhole by a b) = number_weight a + number_weight b
weight_step (Filter-F.CompareText by a b) = text_weight
weight_step (Filter-F.CompareDay by a b) = 2
weight_step (Filter-F.CompareFlag by a b) = 2
weight_step (Filter-F.Like a pattern) = like_weight
weight_step (Filter-F.Between a low high) = number_weight a + number_weight low + number_weight high
weight_step (Filter-F.InWhole a items) = number_weight a + total (map number_weight items.items)
weight_step (Filter-F.InText a items) = text_weight * length items.items
weight_step (Filter-F.InDay a items) = 2 * length items.items
weight_step (Filter-F.InFlag a items) = 2 * length items.items
weight_step (Filter-F.IsNull a) = term_weight a
weight_step (Filter-F.Spatial by a b) = shapes_weight + corners_in a + corners_in b
weight_step (Filter-F.Temporal by a b) = 4
weight_step (Filter-F.Not f) = f.value
weight_step (Filter-F.And fs) = total fs.items
weight_step (Filter-F.Or fs) = total fs.items

abbrev pub weight_of : Filter → ℕ
weight_of = fold-Filter ℕ weight_step

-- a filter that is not asked for takes no time
abbrev pub weight_if_any : Option Filter → ℕ
weight_if_any None = 0
weight_if_any (Some filter) = weight_of filter

-- a count stops at the most that a counter holds
abbrev pub capped : ℕ → ℕ
capped n = min n 18446744073709551615
