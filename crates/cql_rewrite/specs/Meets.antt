-- The features that meet a normal form (own profile).
use Rattle.std.specs.Prelude.{◌≡◌, ℕ, Bool, true, false, ◌&&◌, ◌||◌, List, Option, Some, None}
use Rattle.std.specs.List.{list_all, list_any}
use Rattle.std.specs.Str.{all_scalars}
use Rattle.caseless.specs.Caseless.{default_case_fold}
use Rattle.cad_shape.specs.Shapes.{shape_corners}
use Rattle.cad_grid.specs.Blocks.{block_around}
use Rattle.cad_grid.specs.Near.{is_near}
use Rattle.cad_feature.specs.Features.{Item, datum_at}
use Rattle.cad_range.specs.Ranges.{lies_in}
use Rattle.cql_text.specs.Fronts.{text_of}
use Rattle.cql_text.specs.Patterns.{like_test}
use Rattle.cql_types.specs.declared.filter.Filter.{Filter}
use Rattle.cql_lexer.specs.declared.token.Comparison.TheVariants as comparison
use Rattle.cql_meaning.specs.Sides.{Sides, sides, texts}
use Rattle.cql_meaning.specs.Folding.{folds_case}
use Rattle.cql_meaning.specs.Values.{text_in}
use Rattle.cql_rewrite.specs.declared.form.Normal.{Normal}
use Rattle.cql_rewrite.specs.declared.form.Normal.TheVariants as form
use Rattle.cql_rewrite.specs.declared.form.Normal.TheOpen.{Normal-F}
use Rattle.cql_rewrite.specs.declared.form.Normal.TheFolds.{fold-Normal}
use Rattle.cql_rewrite.specs.declared.form.Normal.TheViews.{out-Normal}

-- its texts hold only characters (Unicode scalar values)
abbrev pub HoldsCharacters : Item → Type 0
HoldsCharacters x = (i : ℕ) (t : List ℕ) → text_in (datum_at x i) ≡ Some t → all_scalars t ≡ true

-- a feature whose texts hold only characters; those of every collection are such
pub record Written : Type 0 where
  pub item : Item
  pub characters : HoldsCharacters item

-- the features of which a filter is true, or those of which it is false
abbrev pub side_of : Bool → Sides → Bool
side_of true s = s.yes
side_of false s = s.no

abbrev pub in_side : Bool → Item → Filter → Bool
in_side side x f = side_of side (sides x f)

-- there is a text and it is like the pattern
abbrev pub is_liked : Option (List ℕ) → List ℕ → Bool
is_liked None pattern = false
is_liked (Some text) pattern = like_test pattern text

-- there is a text, and it is this one if its case is folded
abbrev pub is_folded_to : Option (List ℕ) → List ℕ → Bool
is_folded_to None folded = false
is_folded_to (Some text) folded = texts comparison.Equal (default_case_fold text) folded

-- there is a text, and it is like the pattern if its case is folded
abbrev pub is_liked_folded : Option (List ℕ) → List ℕ → Bool
is_liked_folded None pattern = false
is_liked_folded (Some text) pattern = like_test pattern (default_case_fold text)

-- a form, with whether the feature meets each part in the part's place
abbrev pub meet_step : Item → Normal-F Bool → Bool
meet_step x (Normal-F.Constant b) = b
meet_step x (Normal-F.Range r) = lies_in x r
meet_step x (Normal-F.Like pattern r) = lies_in x r && is_liked (text_in (datum_at x r.property)) (text_of pattern)
meet_step x (Normal-F.Atom f side) = in_side side x f.now
meet_step x (Normal-F.Owned f side) = in_side side x f
meet_step x (Normal-F.Folded text) = is_folded_to (text_in (datum_at x text.property)) text.text
meet_step x (Normal-F.LikeFolded p) = is_liked_folded (text_in (datum_at x p.property)) p.pattern
meet_step x (Normal-F.Near f property shape) = is_near property (block_around (shape_corners shape.now)) x && in_side true x f.now
meet_step x (Normal-F.And parts) = list_all (λ b. b) parts.items
meet_step x (Normal-F.Or parts) = list_any (λ b. b) parts.items

abbrev pub meets : Item → Normal → Bool
meets x = fold-Normal Bool (meet_step x)

-- ---- what a form offers

abbrev pub is_settled : Normal → Bool
is_settled (form.Constant b) = true
is_settled n = false

-- a range by itself
abbrev pub offers_own : Normal → Bool
offers_own (form.Range r) = true
offers_own (form.Like pattern r) = true
offers_own n = false

-- a range: its own, or that of some part of an AND
abbrev pub offers_in : Normal-F Normal → Bool
offers_in (Normal-F.Range r) = true
offers_in (Normal-F.Like pattern r) = true
offers_in (Normal-F.And parts) = list_any offers_own parts.items
offers_in other = false

abbrev pub offers : Normal → Bool
offers n = offers_in (out-Normal n)

-- ---- memory

-- some text in the form is a CASEI, which takes memory
abbrev pub folds_step : Normal-F Bool → Bool
folds_step (Normal-F.Constant b) = false
folds_step (Normal-F.Range r) = false
folds_step (Normal-F.Like pattern r) = false
folds_step (Normal-F.Atom f side) = folds_case f.now
folds_step (Normal-F.Owned f side) = folds_case f
folds_step (Normal-F.Folded text) = false
folds_step (Normal-F.LikeFolded p) = true
folds_step (Normal-F.Near f property shape) = folds_case f.now
folds_step (Normal-F.And parts) = list_any (λ b. b) parts.items
folds_step (Normal-F.Or parts) = list_any (λ b. b) parts.items

abbrev pub folds : Normal → Bool
folds = fold-Normal Bool folds_step

-- ---- words of the contracts

-- for all, or for some
abbrev pub joined_by : Bool → (Filter → Bool) → List Filter → Bool
joined_by true p fs = list_all p fs
joined_by false p fs = list_any p fs

abbrev pub joined_test : Bool → Bool → Bool → Bool
joined_test true a b = a && b
joined_test false a b = a || b

-- one more part of an AND, no matter how it is kept
abbrev pub AddsPart : List Normal → List Normal → Normal → Type 0
AddsPart old new part = (x : Item) → list_all (meets x) new ≡ (list_all (meets x) old && meets x part)

abbrev pub AddsBoth : List Normal → List Normal → Normal → Normal → Type 0
AddsBoth old new a b = (x : Item) → list_all (meets x) new ≡ (list_all (meets x) old && (meets x a && meets x b))

-- more parts of an AND
abbrev pub AddsAll : List Normal → List Normal → List Normal → Type 0
AddsAll old new parts = (x : Item) → list_all (meets x) new ≡ (list_all (meets x) old && list_all (meets x) parts)

-- one more part of an OR, no matter how it is kept
abbrev pub AddsEither : List Normal → List Normal → Normal → Type 0
AddsEither old new part = (x : Item) → list_any (meets x) new ≡ (list_any (meets x) old || meets x part)
