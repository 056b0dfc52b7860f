-- What the cheapest plan of a normal form looks at, and the bound of a filter (own profile).
use Rattle.std.specs.Prelude.{◌≡◌, ◌≤◌, ℕ, min, ◌+◌, Bool, true, false, List, [], ◌∷◌, map, length, Option, Some, None, if◌then◌else◌}
use Rattle.std.specs.List.{list_all, list_any}
use Rattle.cad_grid.specs.Blocks.{block_around}
use Rattle.cad_grid.specs.Near.{is_near}
use Rattle.cad_feature.specs.Features.{Item, datum_at}
use Rattle.cad_feature.specs.declared.range.Range.{Range}
use Rattle.cad_range.specs.Ranges.{lies_in, lies_in_if_any}
pub use Rattle.cad_lookup.specs.Ways.{how_many, min_of, total}
use Rattle.cad_shape.specs.declared.shape.Shape.{Shape}
use Rattle.cad_shape.specs.Shapes.{shape_corners}
use Rattle.cql_lexer.specs.declared.token.SpatialRelation.{SpatialRelation}
use Rattle.cql_lexer.specs.declared.token.SpatialRelation.TheVariants as relation
use Rattle.cql_lexer.specs.declared.token.Comparison.TheVariants as comparison
use Rattle.cql_text.specs.Fronts.{begins_with, front_of, text_of}
use Rattle.cql_text.specs.Patterns.{pieces}
use Rattle.cql_types.specs.declared.filter.ShapeTerm.{ShapeTerm}
use Rattle.cql_types.specs.declared.filter.ShapeTerm.TheVariants as place
use Rattle.cql_types.specs.declared.filter.WholeTerm.{WholeTerm}
use Rattle.cql_types.specs.declared.filter.WholeTerm.TheVariants as whole
use Rattle.cql_types.specs.declared.filter.TextTerm.{TextTerm}
use Rattle.cql_types.specs.declared.filter.TextTerm.TheVariants as text
use Rattle.cql_types.specs.declared.filter.DayTerm.{DayTerm}
use Rattle.cql_types.specs.declared.filter.Filter.{Filter}
use Rattle.cql_types.specs.declared.filter.Filter.TheOpen.{Filter-F}
use Rattle.cql_types.specs.declared.filter.Filter.TheFolds.{fold-Filter}
use Rattle.cql_meaning.specs.Arithmetic.{whole_value}
use Rattle.cql_meaning.specs.Sides.{Sides, between}
use Rattle.cql_meaning.specs.Values.{text_in}
use Rattle.cql_rewrite.specs.declared.form.Normal.{Normal}
use Rattle.cql_rewrite.specs.declared.form.Normal.TheOpen.{Normal-F}
use Rattle.cql_rewrite.specs.declared.form.Normal.TheFolds.{fold-Normal}
use Rattle.cql_rewrite.specs.Meets.{Written, meets}
use Rattle.cql_rewrite.specs.Terms.{day_sides, is_plain_days, is_plain_texts, is_plain_wholes, text_sides, whole_sides}

abbrev pub every : List Written → ℕ
every t = length t

-- how many are looked at when that shape is asked for: those whose bounds touch more than 64 cells, or a cell that its bounds touch
abbrev pub near_count : List Written → ℕ → Shape → ℕ
near_count t property shape = how_many (λ x. is_near property (block_around (shape_corners shape)) x.item) t

-- ---- plans

-- the least cost of the menu of a form, with that of each part in the part's place
abbrev pub least_step : List Written → Normal-F ℕ → ℕ
least_step t (Normal-F.Constant true) = every t
least_step t (Normal-F.Constant false) = 0
least_step t (Normal-F.Range r) = how_many (λ x. lies_in x.item r) t
least_step t (Normal-F.Like pattern r) = how_many (λ x. lies_in x.item r) t
least_step t (Normal-F.Atom f side) = every t
least_step t (Normal-F.Owned f side) = every t
least_step t (Normal-F.Folded text) = every t
least_step t (Normal-F.LikeFolded p) = every t
least_step t (Normal-F.Near f property shape) = min (every t) (near_count t property shape.now)
least_step t (Normal-F.And parts) = min_of (every t) parts.items
least_step t (Normal-F.Or parts) = min (every t) (total parts.items)

abbrev pub least : List Written → Normal → ℕ
least t = fold-Normal ℕ (least_step t)

-- ---- bounds

-- a bare property between two literals
abbrev pub is_plain_between : WholeTerm → WholeTerm → WholeTerm → Bool
is_plain_between (whole.Property i) (whole.Constant a) (whole.Constant b) = true
is_plain_between a low high = false

abbrev pub is_near_by : SpatialRelation → Bool
is_near_by relation.Intersects = true
is_near_by relation.Disjoint = false
is_near_by relation.Within = true
is_near_by relation.Contains = true

-- what looking near the shape costs, if one term is a property and the other a literal
abbrev pub near_terms : List Written → ShapeTerm → ShapeTerm → ℕ
near_terms t (place.Property i) (place.Constant s) = min (every t) (near_count t i s)
near_terms t (place.Constant s) (place.Property i) = min (every t) (near_count t i s)
near_terms t a b = every t

abbrev pub near_bound : List Written → SpatialRelation → ShapeTerm → ShapeTerm → ℕ
near_bound t by a b = if is_near_by by then near_terms t a b else every t

-- how many have a value that meets a plain comparison; for another comparison all
abbrev pub count_if : Bool → List Written → (Written → Sides) → ℕ
count_if true t said = how_many (λ x. (said x).yes) t
count_if false t said = every t

-- ---- LIKE

-- there is a text that begins with the front
abbrev pub begins_in : List ℕ → Option (List ℕ) → Bool
begins_in front None = false
begins_in front (Some text) = begins_with front text

-- how many have a text that begins with the front of a literal pattern, if the front is not empty
abbrev pub begun_by : List Written → ℕ → List ℕ → ℕ
begun_by t i [] = every t
begun_by t i (c ∷ front) = how_many (λ x. begins_in (c ∷ front) (text_in (datum_at x.item i))) t

abbrev pub like_bound : List Written → TextTerm → TextTerm → ℕ
like_bound t (text.Property i) (text.Constant s) = begun_by t i (front_of (pieces (text_of s)))
like_bound t a pattern = every t

-- ---- IN

-- a bare property and literals
abbrev pub is_plain_in_wholes : WholeTerm → List WholeTerm → Bool
is_plain_in_wholes a items = list_all (is_plain_wholes comparison.Equal a) items

abbrev pub is_plain_in_texts : TextTerm → List TextTerm → Bool
is_plain_in_texts a items = list_all (is_plain_texts comparison.Equal a) items

abbrev pub is_plain_in_days : DayTerm → List DayTerm → Bool
is_plain_in_days a items = list_all (is_plain_days comparison.Equal a) items

-- the value equals that of some item
abbrev pub any_equal : {T : Type 0} → (Item → T → T → Sides) → Item → T → List T → Bool
any_equal equal x a items = list_any (λ item. (equal x a item).yes) items

-- how many have the item's value
abbrev pub count_of : {T : Type 0} → List Written → (Item → T → T → Sides) → T → T → ℕ
count_of t equal a item = how_many (λ x. (equal x.item a item).yes) t

-- the sum over the items; for another IN all
abbrev pub count_in : {T : Type 0} → Bool → List Written → (Item → T → T → Sides) → T → List T → ℕ
count_in true t equal a items = min (every t) (total (map (count_of t equal a) items))
count_in false t equal a items = every t

-- the bound of a filter, with that of each part in the part's place
abbrev pub bound_step : List Written → Filter-F ℕ → ℕ
bound_step t (Filter-F.Truth b) = every t
bound_step t (Filter-F.CompareWhole by a b) = count_if (is_plain_wholes by a b) t (λ x. whole_sides by x.item a b)
bound_step t (Filter-F.CompareText by a b) = count_if (is_plain_texts by a b) t (λ x. text_sides by x.item a b)
bound_step t (Filter-F.CompareDay by a b) = count_if (is_plain_days by a b) t (λ x. day_sides by x.item a b)
bound_step t (Filter-F.CompareFlag by a b) = every t
bound_step t (Filter-F.Like a pattern) = like_bound t a pattern
bound_step t (Filter-F.Between a low high) = count_if (is_plain_between a low high) t (λ x. between (whole_value x.item a) (whole_value x.item low) (whole_value x.item high))
bound_step t (Filter-F.InWhole a items) = count_in (is_plain_in_wholes a items.items) t (whole_sides comparison.Equal) a items.items
bound_step t (Filter-F.InText a items) = count_in (is_plain_in_texts a items.items) t (text_sides comparison.Equal) a items.items
bound_step t (Filter-F.InDay a items) = count_in (is_plain_in_days a items.items) t (day_sides comparison.Equal) a items.items
bound_step t (Filter-F.InFlag a items) = every t
bound_step t (Filter-F.IsNull a) = every t
bound_step t (Filter-F.Spatial by a b) = near_bound t by a b
bound_step t (Filter-F.Temporal by a b) = every t
bound_step t (Filter-F.Not f) = every t
bound_step t (Filter-F.And fs) = min_of (every t) fs.items
bound_step t (Filter-F.Or fs) = min (every t) (total fs.items)

abbrev pub bound : List Written → Filter → ℕ
bound t = fold-Filter ℕ (bound_step t)

-- ---- words of the contracts

-- the bound is only about the features of which the filter is true
abbrev pub bound_on : Bool → List Written → Filter → ℕ
bound_on true t f = bound t f
bound_on false t f = every t

-- the bounds of the parts, for all or for some
abbrev pub bounds_joined : Bool → Bool → List Written → List Filter → ℕ
bounds_joined true side t fs = min_of (every t) (map (bound_on side t) fs)
bounds_joined false side t fs = min (every t) (total (map (bound_on side t) fs))

abbrev pub least_of_all : List Written → List Normal → ℕ
least_of_all t ns = min_of (every t) (map (least t) ns)

abbrev pub least_of_some : List Written → List Normal → ℕ
least_of_some t ns = min (every t) (total (map (least t) ns))

-- exactly as many are looked at as meet the form
abbrev pub IsCounted : Normal → Type 0
IsCounted n = (t : List Written) → least t n ≡ how_many (λ x. meets x.item n) t

abbrev pub range_count : List Written → Option Range → ℕ
range_count t r = how_many (λ x. lies_in_if_any x.item r) t

-- an AND with one more part costs no more than the AND before, and no more than the part
abbrev pub CostsPart : List Normal → List Normal → Normal → Type 0
CostsPart old new part = (t : List Written) → least_of_all t new ≤ min (least_of_all t old) (least t part)

abbrev pub CostsBoth : List Normal → List Normal → Normal → Normal → Type 0
CostsBoth old new a b = (t : List Written) → least_of_all t new ≤ min (least_of_all t old) (min (least t a) (least t b))

-- what the cheapest plan of a form looks at; without a form, all
abbrev pub least_or : List Written → Option Normal → ℕ
least_or t None = every t
least_or t (Some n) = least t n

-- an AND with more parts costs no more than the AND before, and no more than any of the parts
abbrev pub CostsAll : List Normal → List Normal → List Normal → Type 0
CostsAll old new parts = (t : List Written) → least_of_all t new ≤ min (least_of_all t old) (least_of_all t parts)

-- an OR with one more part costs no more than the OR before and the part together
abbrev pub CostsEither : List Normal → List Normal → Normal → Type 0
CostsEither old new part = (t : List Written) → total (map (least t) new) ≤ total (map (least t) old) + least t part
